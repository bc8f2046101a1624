use Rattle.std.proofs.Common.{◌≡◌, ◌≤◌}
use Rattle.std.specs.Path.{rfind_below, slash}
use Rattle.idx_commands.proofs.SiteNameLemmas.{part_from}
use Rattle.idx_commands.proofs.site_name.last_part.Given as goal

abbrev pub invariant-loop-i : goal.invariant-loop-i
invariant-loop-i l = (l.from ≡ part_from (rfind_below slash l.path l.i)) × (l.from ≤ l.i)
