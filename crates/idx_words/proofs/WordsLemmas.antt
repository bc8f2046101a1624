-- The words of a command behind its name.
use Rattle.std.proofs.Common.{◌≡◌, ℕ, Result, Ok, Err, IfErr, List, ◌∷◌, bytes_eq, codes, refl, sym, ap, ◌∙◌, subst}
use Rattle.std.proofs.lemmas.Bool.{false≢true}
use Rattle.idx_words.specs.declared.command.Command.{Command}
use Rattle.idx_words.specs.declared.command.Command.TheVariants.{Cut, Info, Convert, Query, Check, Serve, Drill}
use Rattle.idx_words.specs.declared.misread.Misread.{Misread}
use Rattle.idx_words.specs.CheckGrammar.{AreSomeCheckWords}
use Rattle.idx_words.specs.DrillGrammar.{AreSomeDrillWords}
use Rattle.idx_words.specs.Place.{IsPlaceBehind}
use Rattle.idx_words.specs.ServeGrammar.{AreSomeServeWords}
use Rattle.idx_words.specs.Words.{GiveCommand, AreInfoWords, AreSomeConvertWords, AreSomeCutWords, AreSomeQueryWords, IsUsagePlace}
use Rattle.idx_words.proofs.PlaceLemmas.{IsPlace-behind}
use Rattle.idx_words.proofs.WitnessLemmas.{on_raw}
use Rattle.idx_words.proofs.InfoLemmas.{info_goes_on}
use Rattle.idx_words.proofs.ConvertLemmas.{convert_goes_on}
use Rattle.idx_words.proofs.QueryLemmas.{query_goes_on}
use Rattle.idx_words.proofs.CheckLemmas.{check_goes_on}
use Rattle.idx_words.proofs.ServeLemmas.{serve_goes_on}
use Rattle.idx_words.proofs.DrillLemmas.{drill_goes_on}

-- two names of as many letters differ
query_not_serve : codes "query" ≡ codes "serve" → ⊥
query_not_serve same = false≢true (ap (λ name. bytes_eq name (codes "serve")) same)

query_not_check : codes "query" ≡ codes "check" → ⊥
query_not_check same = false≢true (ap (λ name. bytes_eq name (codes "check")) same)

query_not_drill : codes "query" ≡ codes "drill" → ⊥
query_not_drill same = false≢true (ap (λ name. bytes_eq name (codes "drill")) same)

check_not_serve : codes "check" ≡ codes "serve" → ⊥
check_not_serve same = false≢true (ap (λ name. bytes_eq name (codes "serve")) same)

check_not_drill : codes "check" ≡ codes "drill" → ⊥
check_not_drill same = false≢true (ap (λ name. bytes_eq name (codes "drill")) same)

serve_not_drill : codes "serve" ≡ codes "drill" → ⊥
serve_not_drill same = false≢true (ap (λ name. bytes_eq name (codes "drill")) same)

-- of each name the words give one command
only_cut : (words : List (List ℕ)) → GiveCommand (codes "cut" ∷ words) → AreSomeCutWords words
only_cut words (Cut c, gives) = (c, gives.1)
only_cut words (Info, gives) = absurd (let same = gives.0 in cc)
only_cut words (Convert c, gives) = absurd (let same = gives.0 in cc)
only_cut words (Query c, gives) = absurd (let same = gives.0 in cc)
only_cut words (Check time, gives) = absurd (let same = gives.0 in cc)
only_cut words (Serve c, gives) = absurd (let same = gives.0 in cc)
only_cut words (Drill number, gives) = absurd (let same = gives.0 in cc)

only_info : (words : List (List ℕ)) → GiveCommand (codes "info" ∷ words) → AreInfoWords words
only_info words (Cut c, gives) = absurd (let same = gives.0 in cc)
only_info words (Info, gives) = gives.1
only_info words (Convert c, gives) = absurd (let same = gives.0 in cc)
only_info words (Query c, gives) = absurd (let same = gives.0 in cc)
only_info words (Check time, gives) = absurd (let same = gives.0 in cc)
only_info words (Serve c, gives) = absurd (let same = gives.0 in cc)
only_info words (Drill number, gives) = absurd (let same = gives.0 in cc)

only_convert : (words : List (List ℕ)) → GiveCommand (codes "convert" ∷ words) → AreSomeConvertWords words
only_convert words (Cut c, gives) = absurd (let same = gives.0 in cc)
only_convert words (Info, gives) = absurd (let same = gives.0 in cc)
only_convert words (Convert c, gives) = (c, gives.1)
only_convert words (Query c, gives) = absurd (let same = gives.0 in cc)
only_convert words (Check time, gives) = absurd (let same = gives.0 in cc)
only_convert words (Serve c, gives) = absurd (let same = gives.0 in cc)
only_convert words (Drill number, gives) = absurd (let same = gives.0 in cc)

only_query : (words : List (List ℕ)) → GiveCommand (codes "query" ∷ words) → AreSomeQueryWords words
only_query words (Cut c, gives) = absurd (let same = gives.0 in cc)
only_query words (Info, gives) = absurd (let same = gives.0 in cc)
only_query words (Convert c, gives) = absurd (let same = gives.0 in cc)
only_query words (Query c, gives) = (c, gives.1)
only_query words (Check time, gives) = absurd (query_not_check gives.0)
only_query words (Serve c, gives) = absurd (query_not_serve gives.0)
only_query words (Drill number, gives) = absurd (query_not_drill gives.0)

only_check : (words : List (List ℕ)) → GiveCommand (codes "check" ∷ words) → AreSomeCheckWords words
only_check words (Cut c, gives) = absurd (let same = gives.0 in cc)
only_check words (Info, gives) = absurd (let same = gives.0 in cc)
only_check words (Convert c, gives) = absurd (let same = gives.0 in cc)
only_check words (Query c, gives) = absurd (query_not_check (sym gives.0))
only_check words (Check time, gives) = (time, gives.1)
only_check words (Serve c, gives) = absurd (check_not_serve gives.0)
only_check words (Drill number, gives) = absurd (check_not_drill gives.0)

only_serve : (words : List (List ℕ)) → GiveCommand (codes "serve" ∷ words) → AreSomeServeWords words
only_serve words (Cut c, gives) = absurd (let same = gives.0 in cc)
only_serve words (Info, gives) = absurd (let same = gives.0 in cc)
only_serve words (Convert c, gives) = absurd (let same = gives.0 in cc)
only_serve words (Query c, gives) = absurd (query_not_serve (sym gives.0))
only_serve words (Check time, gives) = absurd (check_not_serve (sym gives.0))
only_serve words (Serve c, gives) = (c, gives.1)
only_serve words (Drill number, gives) = absurd (serve_not_drill gives.0)

only_drill : (words : List (List ℕ)) → GiveCommand (codes "drill" ∷ words) → AreSomeDrillWords words
only_drill words (Cut c, gives) = absurd (let same = gives.0 in cc)
only_drill words (Info, gives) = absurd (let same = gives.0 in cc)
only_drill words (Convert c, gives) = absurd (let same = gives.0 in cc)
only_drill words (Query c, gives) = absurd (query_not_drill (sym gives.0))
only_drill words (Check time, gives) = absurd (check_not_drill (sym gives.0))
only_drill words (Serve c, gives) = absurd (serve_not_drill (sym gives.0))
only_drill words (Drill number, gives) = (number, gives.1)

-- the place behind a command's name is that of the whole list
usage_cut : (words : List (List ℕ)) (at : ℕ) → IsPlaceBehind AreSomeCutWords words at → IsUsagePlace (codes "cut" ∷ words) at
usage_cut words at (k, next, place) =
    subst (IsUsagePlace (codes "cut" ∷ words)) (sym next)
    (IsPlace-behind AreSomeCutWords GiveCommand (codes "cut") words k (λ list some. (Cut some.0, (refl, some.1))) (only_cut) on_raw place)

usage_info : (words : List (List ℕ)) (at : ℕ) → IsPlaceBehind AreInfoWords words at → IsUsagePlace (codes "info" ∷ words) at
usage_info words at (k, next, place) =
    subst (IsUsagePlace (codes "info" ∷ words)) (sym next)
    (IsPlace-behind AreInfoWords GiveCommand (codes "info") words k (λ list some. (Info, (refl, some))) (only_info) (info_goes_on words) place)

usage_convert : (words : List (List ℕ)) (at : ℕ) → IsPlaceBehind AreSomeConvertWords words at → IsUsagePlace (codes "convert" ∷ words) at
usage_convert words at (k, next, place) =
    subst (IsUsagePlace (codes "convert" ∷ words)) (sym next)
    (IsPlace-behind AreSomeConvertWords GiveCommand (codes "convert") words k (λ list some. (Convert some.0, (refl, some.1))) (only_convert) (convert_goes_on words) place)

usage_query : (words : List (List ℕ)) (at : ℕ) → IsPlaceBehind AreSomeQueryWords words at → IsUsagePlace (codes "query" ∷ words) at
usage_query words at (k, next, place) =
    subst (IsUsagePlace (codes "query" ∷ words)) (sym next)
    (IsPlace-behind AreSomeQueryWords GiveCommand (codes "query") words k (λ list some. (Query some.0, (refl, some.1))) (only_query) (query_goes_on words) place)

usage_check : (words : List (List ℕ)) (at : ℕ) → IsPlaceBehind AreSomeCheckWords words at → IsUsagePlace (codes "check" ∷ words) at
usage_check words at (k, next, place) =
    subst (IsUsagePlace (codes "check" ∷ words)) (sym next)
    (IsPlace-behind AreSomeCheckWords GiveCommand (codes "check") words k (λ list some. (Check some.0, (refl, some.1))) (only_check) (check_goes_on words) place)

usage_serve : (words : List (List ℕ)) (at : ℕ) → IsPlaceBehind AreSomeServeWords words at → IsUsagePlace (codes "serve" ∷ words) at
usage_serve words at (k, next, place) =
    subst (IsUsagePlace (codes "serve" ∷ words)) (sym next)
    (IsPlace-behind AreSomeServeWords GiveCommand (codes "serve") words k (λ list some. (Serve some.0, (refl, some.1))) (only_serve) (serve_goes_on words) place)

usage_drill : (words : List (List ℕ)) (at : ℕ) → IsPlaceBehind AreSomeDrillWords words at → IsUsagePlace (codes "drill" ∷ words) at
usage_drill words at (k, next, place) =
    subst (IsUsagePlace (codes "drill" ∷ words)) (sym next)
    (IsPlace-behind AreSomeDrillWords GiveCommand (codes "drill") words k (λ list some. (Drill some.0, (refl, some.1))) (only_drill) (drill_goes_on words) place)

module _ (answer : Result Command Misread) (all : List (List ℕ)) (name : List ℕ) (words : List (List ℕ)) (is : all ≡ name ∷ words) where
  -- what a reader of the words behind a name says is so of the whole list
  passed_on : (command : List ℕ) (G : List (List ℕ) → Type 0) → ((at : ℕ) → IsPlaceBehind G words at → IsUsagePlace (command ∷ words) at) → name ≡ command →
      (answer : Result Command Misread) → IfErr answer (λ misread. IsPlaceBehind G words misread.at) → IfErr answer (λ misread. IsUsagePlace all misread.at)
  passed_on command G behind named (Ok read) place = tt
  passed_on command G behind named (Err misread) place = subst (λ ws. IsUsagePlace ws misread.at) (sym (is ∙ ap (λ n. n ∷ words) named)) (behind misread.at place)

  pub cut_passed_on : name ≡ codes "cut" → IfErr answer (λ misread. IsPlaceBehind AreSomeCutWords words misread.at) → IfErr answer (λ misread. IsUsagePlace all misread.at)
  cut_passed_on named = passed_on (codes "cut") AreSomeCutWords (usage_cut words) named answer

  pub info_passed_on : name ≡ codes "info" → IfErr answer (λ misread. IsPlaceBehind AreInfoWords words misread.at) → IfErr answer (λ misread. IsUsagePlace all misread.at)
  info_passed_on named = passed_on (codes "info") AreInfoWords (usage_info words) named answer

  pub convert_passed_on : name ≡ codes "convert" → IfErr answer (λ misread. IsPlaceBehind AreSomeConvertWords words misread.at) → IfErr answer (λ misread. IsUsagePlace all misread.at)
  convert_passed_on named = passed_on (codes "convert") AreSomeConvertWords (usage_convert words) named answer

  pub query_passed_on : name ≡ codes "query" → IfErr answer (λ misread. IsPlaceBehind AreSomeQueryWords words misread.at) → IfErr answer (λ misread. IsUsagePlace all misread.at)
  query_passed_on named = passed_on (codes "query") AreSomeQueryWords (usage_query words) named answer

  pub check_passed_on : name ≡ codes "check" → IfErr answer (λ misread. IsPlaceBehind AreSomeCheckWords words misread.at) → IfErr answer (λ misread. IsUsagePlace all misread.at)
  check_passed_on named = passed_on (codes "check") AreSomeCheckWords (usage_check words) named answer

  pub serve_passed_on : name ≡ codes "serve" → IfErr answer (λ misread. IsPlaceBehind AreSomeServeWords words misread.at) → IfErr answer (λ misread. IsUsagePlace all misread.at)
  serve_passed_on named = passed_on (codes "serve") AreSomeServeWords (usage_serve words) named answer

  pub drill_passed_on : name ≡ codes "drill" → IfErr answer (λ misread. IsPlaceBehind AreSomeDrillWords words misread.at) → IfErr answer (λ misread. IsUsagePlace all misread.at)
  drill_passed_on named = passed_on (codes "drill") AreSomeDrillWords (usage_drill words) named answer
