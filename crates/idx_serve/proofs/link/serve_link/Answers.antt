use Rattle.idx_serve.proofs.OnceLemmas.{is_served}
use Rattle.idx_serve.proofs.link.serve_link.Goals as goal

pub returns-clause-session : goal.returns-clause-session
returns-clause-session g c = is_served c.new-answering.result.seen c.serve_heads.new.responder.seen c.new-answering.ensures c.serve_heads.ensures.session
