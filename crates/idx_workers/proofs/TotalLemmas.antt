-- How workers ended, with one more in front of them.
use Rattle.std.proofs.Common.{◌≡◌, Bool, true, false, ◌||◌, List, [], ◌∷◌, refl, sym, ap}
use Rattle.std.specs.Prelude.{if◌then◌else◌}
use Rattle.std.specs.List.{list_any}
use Rattle.idx_serve.specs.declared.door.ServeEnd.{ServeEnd}
use Rattle.idx_serve.specs.declared.door.ServeEnd.TheVariants as S
use Rattle.idx_workers.specs.Workers.{end_of, first_fault, is_memoryless}

-- what a door ends with is no want of memory
fault_is_none : (ends : List ServeEnd) → S.NoMemory ≡ first_fault ends → ⊥
fault_is_none [] same = absurd (cc)
fault_is_none (S.DoorFault faults ∷ ends) same = absurd (cc)
fault_is_none (S.Done ∷ ends) same = fault_is_none ends same
fault_is_none (S.NoMemory ∷ ends) same = fault_is_none ends same

or_true : (b : Bool) → (b || true) ≡ true
or_true true = refl
or_true false = refl

pub no_memory_first : (first : ServeEnd) (ends : List ServeEnd) → S.NoMemory ≡ end_of ends → S.NoMemory ≡ end_of (first ∷ ends)
no_memory_first first ends same = by_test (list_any is_memoryless ends) same
  where
    by_test : (b : Bool) → S.NoMemory ≡ (if b then S.NoMemory else first_fault ends) → S.NoMemory ≡ (if (is_memoryless first || b) then S.NoMemory else first_fault (first ∷ ends))
    by_test true e = ap (λ (b : Bool). if b then S.NoMemory else first_fault (first ∷ ends)) (sym (or_true (is_memoryless first)))
    by_test false e = absurd (fault_is_none ends e)
