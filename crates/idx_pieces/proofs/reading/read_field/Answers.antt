use Rattle.std.proofs.Common.{◌≡◌, ℕ, ◌+◌, ◌-◌, ◌*◌, ◌/◌, ◌<◌, ◌≤◌, min, List, length, take, Option, All, sym, ap, ◌∙◌, arith}
use Rattle.std.proofs.Math.Nat.{mul-le-mul_left}
use Rattle.std.proofs.lemmas.List.{length-take-le}
use Rattle.idx_header.specs.Header.{HeaderValue, sample_bytes_of, volume_bytes}
use Rattle.idx_pieces.specs.Reading.{IsReady, IsWindowOf}
use Rattle.idx_pieces.specs.declared.filling.Filling.{Filling}
use Rattle.idx_pieces.proofs.FieldLemmas.{on_ok, place-fits, moves, EndsBelow-same, all-done, IsWindowOf-read, take-short, asks-weaker, asks-window, window-fits}
use Rattle.idx_pieces.proofs.reading.read_field.Goals as goal

pub overflow_mul-at : goal.overflow_mul-at
overflow_mul-at g c =
    omega (
      arith,
      place-fits c.args.header.now c.args.field c.windows.at c.args.start c.sample_bytes-size.result c.requires.field c.requires.start c.sample_bytes-size.ensures.value
          (omega (arith, c.windows.invariant.within, c.requires.end)),
      c.requires.small,
    )

pub overflow_add-start : goal.overflow_add-start
overflow_add-start g c =
    omega (
      arith,
      place-fits c.args.header.now c.args.field c.windows.at c.args.start c.sample_bytes-size.result c.requires.field c.requires.start c.sample_bytes-size.ensures.value
          (omega (arith, c.windows.invariant.within, c.requires.end)),
      c.requires.small,
    )

pub read_window-requires : goal.read_window-requires
read_window-requires g c = λ raw known.
    let at : ℕ = c.windows.at in
    let m : ℕ = c.min.result in
    let size : ℕ = c.sample_bytes-size.result in
    let to : at + m ≤ c.args.end = omega (arith, c.min.ensures, c.windows-test.true) in
    let long : length raw ≡ volume_bytes c.args.header.now = c.requires.volume raw (sym c.windows.invariant.contents ∙ known) in
    let fits = place-fits c.args.header.now c.args.field (at + m) c.args.start size c.requires.field c.requires.start c.sample_bytes-size.ensures.value
    (omega (arith, to, c.requires.end)) in
    let part : (at + m - at) * size ≡ m * size = ap (λ t. t * size) (let rest : at + m - at ≡ m = omega arith in rest) in
    omega (arith, fits, long, part, take-short ((at + m - at) * size) c.windows.window)

pub returns-in_err-read_window-clause-asked : goal.returns-in_err-read_window-clause-asked
returns-in_err-read_window-clause-asked g c = λ low all le.
    let before = c.windows.invariant.asked low all le in
    asks-window (g.V.Source.asked c.args.raw.now) (g.V.Source.asked c.windows.raw) (g.V.Source.asked c.read_window.new.raw) (sample_bytes_of c.args.header.now c.args.field)
    c.sample_bytes-size.result low c.windows.at c.min.result c.args.end c.windows.window c.sample_bytes-size.ensures.value before.0
    (omega (arith, c.min.ensures, c.windows-test.true)) before.1 c.read_window.ensures.asked

pub returns-then-is_err-clause-asked : goal.returns-then-is_err-clause-asked
returns-then-is_err-clause-asked g c = λ low all le.
    let before = c.windows.invariant.asked low all le in
    asks-window (g.V.Source.asked c.args.raw.now) (g.V.Source.asked c.windows.raw) (g.V.Source.asked c.read_window.new.raw) (sample_bytes_of c.args.header.now c.args.field)
    c.sample_bytes-size.result low c.windows.at c.min.result c.args.end c.windows.window c.sample_bytes-size.ensures.value before.0
    (omega (arith, c.min.ensures, c.windows-test.true)) before.1 c.read_window.ensures.asked

pub windows-smaller : goal.windows-smaller
windows-smaller g c =
    let at : ℕ = c.windows.at in
    let m : ℕ = c.min.result in
    let to : at + m ≤ c.args.end = omega (arith, c.min.ensures, c.windows-test.true) in
    let ready : All (IsReady c.args.header.now.box (at + m)) c.append_all.new.parts.items = on_ok c.append_all.result _ (sym c.is_err.ensures.value ∙ c.if-is_err.false) c.append_all.ensures.ready in
    let on : at + m ≤ c.next_place-at-in-windows.result = c.next_place-at-in-windows.ensures.least (at + m) to (λ k d lt. (ready k d lt).next) in
    let up : at < at + min (length c.args.window.now / c.sample_bytes-size.result) (c.args.end - at) =
    moves (length c.args.window.now) c.sample_bytes-size.result at c.args.end c.sample_bytes-size.ensures.some (omega (arith, c.requires.window, c.sample_bytes-size.ensures.few)) c.windows-test.true in
    omega (arith, on, up, c.min.ensures, c.windows-test.true, c.next_place-at-in-windows.ensures.within)

pub windows-preserved : goal.windows-preserved
windows-preserved g c =
    let h : HeaderValue = c.args.header.now in
    let told : Option (List ℕ) = g.V.Source.contents c.args.raw.now in
    let at : ℕ = c.windows.at in
    let m : ℕ = c.min.result in
    let size : ℕ = c.sample_bytes-size.result in
    let parts : List Filling = c.append_all.new.parts.items in
    let to : at + m ≤ c.args.end = omega (arith, c.min.ensures, c.windows-test.true) in
    let ok = sym c.is_err.ensures.value ∙ c.if-is_err.false in
    let ready : All (IsReady h.box (at + m)) parts = on_ok c.append_all.result _ ok c.append_all.ensures.ready in
    let on : at + m ≤ c.next_place-at-in-windows.result = c.next_place-at-in-windows.ensures.least (at + m) to (λ k d lt. (ready k d lt).next) in
    let window : IsWindowOf h told c.args.field at c.read_window.new.window =
    IsWindowOf-read h told (g.V.Source.contents c.windows.raw) c.args.field at c.args.start size (length (take ((at + m - at) * size) c.windows.window)) c.read_window.new.window
    c.windows.invariant.contents c.requires.start c.sample_bytes-size.ensures.value c.read_window.auto.window c.in_ok-read_window.ensures.read in
    record {
      within = c.next_place-at-in-windows.ensures.within;
      ready = λ k d lt. record { cursor = (ready k d lt).cursor; next = c.next_place-at-in-windows.ensures.from k d lt };
      headings = on_ok c.append_all.result _ ok c.append_all.ensures.headings ∙ c.windows.invariant.headings;
      held = λ before. on_ok c.append_all.result _ ok c.append_all.ensures.held told window (c.windows.invariant.held before);
      contents = c.in_ok-read_window.ensures.raw.contents ∙ c.windows.invariant.contents;
      quiet = c.in_ok-read_window.ensures.raw.quiet ∙ c.windows.invariant.quiet;
      asked = λ low all le.
          let before = c.windows.invariant.asked low all le in (
            omega (arith, before.0, on),
            asks-window (g.V.Source.asked c.args.raw.now) (g.V.Source.asked c.windows.raw) (g.V.Source.asked c.read_window.new.raw) (sample_bytes_of h c.args.field)
                size low at m c.next_place-at-in-windows.result c.windows.window c.sample_bytes-size.ensures.value before.0 on before.1 c.read_window.ensures.asked,
          );
    }

pub returns-clause-done : goal.returns-clause-done
returns-clause-done g c =
    all-done c.args.header.now.box c.windows.at c.args.end c.windows.parts.items c.windows.invariant.ready
    (EndsBelow-same c.args.header.now.box c.args.end c.args.parts.now.items c.windows.parts.items c.windows.invariant.headings c.requires.ends) c.windows-test.false

pub returns-clause-asked : goal.returns-clause-asked
returns-clause-asked g c = λ low all le.
    let before = c.windows.invariant.asked low all le in
    let sb : ℕ = sample_bytes_of c.args.header.now c.args.field in
    asks-weaker (g.V.Source.asked c.args.raw.now) (g.V.Source.asked c.windows.raw) (sb * (c.windows.at - low)) (sb * (c.args.end - low))
    (mul-le-mul_left sb (let less : c.windows.at - low ≤ c.args.end - low = omega (arith, c.windows.invariant.within) in less)) before.1

pub slice_bounds-bytes-end-in-windows : goal.slice_bounds-bytes-end-in-windows
slice_bounds-bytes-end-in-windows g c =
    let at : ℕ = c.windows.at in
    let m : ℕ = c.min.result in
    let size : ℕ = c.sample_bytes-size.result in
    sym (length-take-le ((at + m - at) * size) c.windows.window
    (window-fits at m size (length c.args.window.now) (length c.windows.window) (omega (arith, c.min.ensures)) c.windows.auto.window))

pub append_all-requires-clause-window : goal.append_all-requires-clause-window
append_all-requires-clause-window g c =
    let at : ℕ = c.windows.at in
    let m : ℕ = c.min.result in
    let size : ℕ = c.sample_bytes-size.result in
    let room = window-fits at m size (length c.args.window.now) (length c.windows.window) (omega (arith, c.min.ensures)) c.windows.auto.window in
    c.read_window.auto.window ∙ length-take-le ((at + m - at) * size) c.windows.window room ∙ ap (λ s. (at + m - at) * s) c.sample_bytes-size.ensures.value

pub returns-clause-ready : goal.returns-clause-ready
returns-clause-ready g c = λ k d lt. record { cursor = (c.windows.invariant.ready k d lt).cursor; next = λ more. omega arith }
