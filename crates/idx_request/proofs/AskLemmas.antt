-- What is asked, where the field and the step are right.
use Rattle.std.proofs.Common.{◌≡◌, ◌⊎◌, ◌∙◌, ℕ, List, length, Option, Result, Err, inl, inr, Some, bytes_eq, None, Ok, Bool, true, false, true≢false, ◌||◌, not, is_some, ap, sym, subst, refl, codes}
use Rattle.std.specs.Prelude.{◌&&◌}
use Rattle.std.specs.Result.{IsErrAnd}
use Rattle.idx_header.specs.Header.{HeaderValue}
use Rattle.idx_plan.specs.declared.ask.Ask.{Ask}
use Rattle.form_urlencoded.specs.Form.{split_once}
use Rattle.idx_request.specs.declared.target_fault.TargetFault.{TargetFault}
use Rattle.idx_request.specs.declared.target_fault.TargetFault.TheVariants as F
use Rattle.idx_request.specs.Asked.{AreLevelsAsked, IsAsked, IsBoxAsked, is_finest, level_asked, time_asked}
use Rattle.idx_request.specs.Faults.{IsRead, IsReadBehind, IsReadBy, are_levels, early_fault, first_of, names_field, step_fault, where_true, wish_fault}
use Rattle.idx_request.specs.Kept.{Gives, IsAnswer, IsAskRead}
use Rattle.idx_request.specs.Pairs.{Pair, has_double, is_double, pairs_of, values}

-- the field and the step are right
step_right : (h : HeaderValue) (pairs : List Pair) (time : ℕ) → names_field h.fields (values (codes "field") pairs) ≡ true →
    time_asked h (values (codes "time") pairs) ≡ Some time → step_fault h pairs ≡ None
step_right h pairs time named asked =
    ap (λ b. first_of (where_true (not b) F.UnknownField) (where_true (not (is_some (time_asked h (values (codes "time") pairs)))) F.BadTime)) named
    ∙ ap (λ t. where_true (not (is_some t)) F.BadTime) asked

pub ask_read : (h : HeaderValue) (pairs : List Pair) (ask : Ask) → names_field h.fields (values (codes "field") pairs) ≡ true → IsAsked h pairs ask →
    IsAskRead h pairs (Ok ask)
ask_read h pairs ask named asked = subst (IsReadBy h pairs (Ok ask)) (sym (step_right h pairs ask.time named asked.time)) asked

or_false : (a b : Bool) → (a || b) ≡ false → (a ≡ false) × (b ≡ false)
or_false true b is = absurd (true≢false is)
or_false false b is = (refl, is)

-- no parameter stands twice: each of these stands once at most
pub record AreSingle (pairs : List Pair) : Type 0 where
  pub time : is_double (values (codes "time") pairs) ≡ false
  pub field : is_double (values (codes "field") pairs) ≡ false
  pub region : is_double (values (codes "box") pairs) ≡ false
  pub lo : is_double (values (codes "fromh") pairs) ≡ false
  pub hi : is_double (values (codes "toh") pairs) ≡ false
  pub finest : is_double (values (codes "maxh") pairs) ≡ false

pub singles : (pairs : List Pair) → has_double pairs ≡ false → AreSingle pairs
singles pairs single =
    let before_compression = (or_false _ (is_double (values (codes "compression") pairs)) single).0 in
    let finest = or_false _ (is_double (values (codes "maxh") pairs)) before_compression in
    let hi = or_false _ (is_double (values (codes "toh") pairs)) finest.0 in
    let lo = or_false _ (is_double (values (codes "fromh") pairs)) hi.0 in
    let region = or_false _ (is_double (values (codes "box") pairs)) lo.0 in
    let field = or_false _ (is_double (values (codes "field") pairs)) region.0 in
    let time = or_false _ (is_double (values (codes "time") pairs)) field.0 in
    record { time = time.1; field = field.1; region = region.1; lo = lo.1; hi = hi.1; finest = finest.1 }

-- a whole target, where its path and what is wished are right
pub target_read : (h : HeaderValue) (name target : List ℕ) (result : Result Ask TargetFault) →
    bytes_eq (split_once 63 target).0 (codes "/mod_visus") ≡ true → wish_fault name (pairs_of (split_once 63 target).1) ≡ None →
    IsAskRead h (pairs_of (split_once 63 target).1) result → IsRead h name target result
target_read h name target result path wish read =
    let pairs : List Pair = pairs_of (split_once 63 target).1 in
    let early : early_fault h name target ≡ step_fault h pairs =
    ap (λ b. first_of (where_true (not b) F.OtherPath) (first_of (wish_fault name pairs) (step_fault h pairs))) path
    ∙ ap (λ w. first_of w (step_fault h pairs)) wish in
    subst (IsReadBy h pairs result) (sym early) read

-- where what is wished is right no parameter stands twice
pub no_double : (bad double : Bool) (rest : Option TargetFault) →
    first_of (where_true bad F.BadText) (first_of (where_true double F.DoubleParameter) rest) ≡ None → double ≡ false
no_double true double rest is = absurd (true≢false (ap is_some is))
no_double false true rest is = absurd (true≢false (ap is_some is))
no_double false false rest is = refl

-- want of memory may come whatever the target is
pub short : (h : HeaderValue) (pairs : List Pair) (first : Option TargetFault) → IsReadBy h pairs (Err F.NoMemory) first
short h pairs None = tt
short h pairs (Some fault) = inr refl

-- a fault is handed on as it is
pub err_same : {T E : Type 0} (r : Result T E) (fault : E) → IsErrAnd r (λ other. other ≡ fault) → r ≡ Err fault
err_same (Ok value) fault gives = absurd gives
err_same (Err other) fault gives = ap Err gives

-- a part was refused by its fault, or for want of memory
abbrev pub IsRefused : TargetFault → Type 0 → TargetFault → Type 0
IsRefused other Q fault = Gives {T = Unit {0}} (λ _. ⊥) other Q (Err fault)

refused_by : (other : TargetFault) (Q : Type 0) (fault : TargetFault) → IsRefused other Q fault → (fault ≡ F.NoMemory) ⊎ ((fault ≡ other) × Q)
refused_by other Q F.OtherPath refused = inr refused
refused_by other Q F.BadText refused = inr refused
refused_by other Q F.DoubleParameter refused = inr refused
refused_by other Q F.NoAction refused = inr refused
refused_by other Q F.UnknownAction refused = inr refused
refused_by other Q F.NoDataset refused = inr refused
refused_by other Q F.OtherDataset refused = inr refused
refused_by other Q F.NotRaw refused = inr refused
refused_by other Q F.UnknownField refused = inr refused
refused_by other Q F.BadTime refused = inr refused
refused_by other Q F.BadBox refused = inr refused
refused_by other Q F.BadLevels refused = inr refused
refused_by other Q F.NoMemory refused = inl refl

-- what the levels come to
abbrev pub AreLevelsRead : HeaderValue → List Pair → Result (ℕ × ℕ) TargetFault → Type 0
AreLevelsRead h pairs = Gives (λ (levels : ℕ × ℕ). AreLevelsAsked h pairs levels.0 levels.1) F.BadLevels (are_levels h pairs ≡ false)

-- one of the levels was refused
pub levels_refused : (h : HeaderValue) (pairs : List Pair) (Q : Type 0) (result : Result (ℕ × ℕ) TargetFault) (fault : TargetFault) →
    result ≡ Err fault → IsRefused F.BadLevels Q fault → (Q → are_levels h pairs ≡ false) → AreLevelsRead h pairs result
levels_refused h pairs Q result fault is refused next = by (refused_by F.BadLevels Q fault refused)
  where
    by : (fault ≡ F.NoMemory) ⊎ ((fault ≡ F.BadLevels) × Q) → AreLevelsRead h pairs result
    by (inl none) = subst (AreLevelsRead h pairs) (sym (is ∙ ap Err none)) tt
    by (inr (bad, holds)) = subst (AreLevelsRead h pairs) (sym (is ∙ ap Err bad)) (refl, next holds)

module _ (h : HeaderValue) (pairs : List Pair) where
  -- the levels are wrong where one of them is
  pub wrong_lo : level_asked 0 (values (codes "fromh") pairs) ≡ None → are_levels h pairs ≡ false
  wrong_lo none = ap (λ lo. is_some lo && is_some (level_asked (length h.mask) (values (codes "toh") pairs)) && is_finest h (values (codes "maxh") pairs)) none

  pub wrong_hi : (lo : ℕ) → level_asked 0 (values (codes "fromh") pairs) ≡ Some lo → level_asked (length h.mask) (values (codes "toh") pairs) ≡ None →
      are_levels h pairs ≡ false
  wrong_hi lo right none = λ i. is_some (right i) && is_some (none i) && is_finest h (values (codes "maxh") pairs)

  pub wrong_finest : (lo hi : ℕ) → level_asked 0 (values (codes "fromh") pairs) ≡ Some lo → level_asked (length h.mask) (values (codes "toh") pairs) ≡ Some hi →
      is_finest h (values (codes "maxh") pairs) ≡ false → are_levels h pairs ≡ false
  wrong_finest lo hi right also wrong = λ i. is_some (right i) && is_some (also i) && wrong i

  module _ (Q : Type 0) (result : Result Ask TargetFault) (fault : TargetFault) (is : result ≡ Err fault) where
    no_memory : fault ≡ F.NoMemory → IsAskRead h pairs result
    no_memory none = subst (IsAskRead h pairs) (sym (is ∙ ap Err none)) (short h pairs (step_fault h pairs))

    -- the field was refused
    pub field_refused : IsRefused F.UnknownField Q fault → (Q → names_field h.fields (values (codes "field") pairs) ≡ false) → IsAskRead h pairs result
    field_refused refused next = by (refused_by F.UnknownField Q fault refused)
      where
        by : (fault ≡ F.NoMemory) ⊎ ((fault ≡ F.UnknownField) × Q) → IsAskRead h pairs result
        by (inl none) = no_memory none
        by (inr (bad, holds)) =
            let first : step_fault h pairs ≡ Some F.UnknownField =
            ap (λ b. first_of (where_true (not b) F.UnknownField) (where_true (not (is_some (time_asked h (values (codes "time") pairs)))) F.BadTime)) (next holds) in
            subst (IsReadBy h pairs result) (sym first) (inl (is ∙ ap Err bad))

    module _ (named : names_field h.fields (values (codes "field") pairs) ≡ true) where
      -- the step was refused
      pub time_refused : IsRefused F.BadTime Q fault → (Q → time_asked h (values (codes "time") pairs) ≡ None) → IsAskRead h pairs result
      time_refused refused next = by (refused_by F.BadTime Q fault refused)
        where
          by : (fault ≡ F.NoMemory) ⊎ ((fault ≡ F.BadTime) × Q) → IsAskRead h pairs result
          by (inl none) = no_memory none
          by (inr (bad, holds)) =
              let first : step_fault h pairs ≡ Some F.BadTime =
              ap (λ b. first_of (where_true (not b) F.UnknownField) (where_true (not (is_some (time_asked h (values (codes "time") pairs)))) F.BadTime)) named
              ∙ ap (λ t. where_true (not (is_some t)) F.BadTime) (next holds) in
              subst (IsReadBy h pairs result) (sym first) (inl (is ∙ ap Err bad))

      module _ (time : ℕ) (asked : time_asked h (values (codes "time") pairs) ≡ Some time) where
        behind : (fault' : TargetFault) → fault ≡ fault' → IsReadBehind h pairs (Err fault') → IsAskRead h pairs result
        behind fault' same holds =
            subst (IsReadBy h pairs result) (sym (step_right h pairs time named asked)) (subst (IsReadBehind h pairs) (sym (is ∙ ap Err same)) holds)

        -- the box was refused
        pub box_refused : IsRefused F.BadBox Q fault → (Q → (r : List (ℕ × ℕ)) → ¬ IsBoxAsked h (values (codes "box") pairs) r) → IsAskRead h pairs result
        box_refused refused next = by (refused_by F.BadBox Q fault refused)
          where
            by : (fault ≡ F.NoMemory) ⊎ ((fault ≡ F.BadBox) × Q) → IsAskRead h pairs result
            by (inl none) = no_memory none
            by (inr (bad, holds)) = behind F.BadBox bad (next holds)

        -- the levels were refused
        pub behind_levels : (r : List (ℕ × ℕ)) → IsBoxAsked h (values (codes "box") pairs) r → IsRefused F.BadLevels Q fault → (Q → are_levels h pairs ≡ false) →
            IsAskRead h pairs result
        behind_levels r boxed refused next = by (refused_by F.BadLevels Q fault refused)
          where
            by : (fault ≡ F.NoMemory) ⊎ ((fault ≡ F.BadLevels) × Q) → IsAskRead h pairs result
            by (inl none) = no_memory none
            by (inr (bad, holds)) = behind F.BadLevels bad ((r, boxed), next holds)

-- a target whose path is right, and of which what is wished is refused
module _ (h : HeaderValue) (name target : List ℕ) (path : bytes_eq (split_once 63 target).0 (codes "/mod_visus") ≡ true) where
  abbrev pairs : List Pair
  pairs = pairs_of (split_once 63 target).1

  refused : (fault : TargetFault) → wish_fault name pairs ≡ Some fault → IsRead h name target (Err fault)
  refused fault wish =
      let early : early_fault h name target ≡ Some fault =
      ap (λ b. first_of (where_true (not b) F.OtherPath) (first_of (wish_fault name pairs) (step_fault h pairs))) path
      ∙ ap (λ w. first_of w (step_fault h pairs)) wish in
      subst (IsReadBy h pairs (Err fault)) (sym early) (inl refl)

  pub wish_refused : (fault : TargetFault) → IsAnswer (wish_fault name pairs) (Err fault) → IsRead h name target (Err fault)
  wish_refused F.OtherPath wish = refused F.OtherPath wish
  wish_refused F.BadText wish = refused F.BadText wish
  wish_refused F.DoubleParameter wish = refused F.DoubleParameter wish
  wish_refused F.NoAction wish = refused F.NoAction wish
  wish_refused F.UnknownAction wish = refused F.UnknownAction wish
  wish_refused F.NoDataset wish = refused F.NoDataset wish
  wish_refused F.OtherDataset wish = refused F.OtherDataset wish
  wish_refused F.NotRaw wish = refused F.NotRaw wish
  wish_refused F.UnknownField wish = refused F.UnknownField wish
  wish_refused F.BadTime wish = refused F.BadTime wish
  wish_refused F.BadBox wish = refused F.BadBox wish
  wish_refused F.BadLevels wish = refused F.BadLevels wish
  wish_refused F.NoMemory wish = short h pairs (early_fault h name target)
