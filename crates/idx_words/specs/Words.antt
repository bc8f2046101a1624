-- What a list of words stands for: a command with its values.
use Rattle.std.specs.Prelude.{◌≡◌, ℕ, ◌≤◌, List, [], ◌∷◌, IsTrue, codes}
use Rattle.idx_words.specs.declared.command.Command.{Command}
use Rattle.idx_words.specs.declared.command.Command.TheVariants.{Cut, Info, Convert, Query, Check, Serve, Drill}
use Rattle.idx_words.specs.PathWord.{is_path}
use Rattle.idx_words.specs.declared.cut_words.CutWords.{CutWords}
use Rattle.idx_words.specs.CutGrammar.{AreCutWords, IsSound}
use Rattle.idx_words.specs.ConvertValue.{ConvertValue}
use Rattle.idx_words.specs.ConvertGrammar.{AreConvertWords}
use Rattle.idx_words.specs.QueryValue.{QueryValue}
use Rattle.idx_words.specs.QueryGrammar.{AreQueryWords}
use Rattle.idx_words.specs.CheckGrammar.{AreCheckWords}
use Rattle.idx_words.specs.ServeValue.{ServeValue}
use Rattle.idx_words.specs.ServeGrammar.{AreServeWords, IsSoundServe}
use Rattle.idx_words.specs.DrillGrammar.{AreDrillWords}
use Rattle.idx_words.specs.Place.{IsPlace}

-- the words behind the command are those of `info`: DATASET alone
abbrev pub AreInfoWords : List (List ℕ) → Type 0
AreInfoWords (dataset ∷ []) = IsTrue (is_path dataset)
AreInfoWords _ = ⊥

-- the first word names a command, and those behind it stand for its values
abbrev pub Give : List (List ℕ) → Command → Type 0
Give [] command = ⊥
Give (name ∷ words) (Cut c) = (name ≡ codes "cut") × AreCutWords words c
Give (name ∷ words) Info = (name ≡ codes "info") × AreInfoWords words
Give (name ∷ words) (Convert c) = (name ≡ codes "convert") × AreConvertWords words c
Give (name ∷ words) (Query c) = (name ≡ codes "query") × AreQueryWords words c
Give (name ∷ words) (Check time) = (name ≡ codes "check") × AreCheckWords words time
Give (name ∷ words) (Serve c) = (name ≡ codes "serve") × AreServeWords words c
Give (name ∷ words) (Drill number) = (name ≡ codes "drill") × AreDrillWords words number

-- the words are in the grammar
abbrev pub GiveCommand : List (List ℕ) → Type 0
GiveCommand words = (command : Command) × Give words command

-- the words are those of `cut`
abbrev pub GiveCut : List (List ℕ) → Type 0
GiveCut words = (c : CutWords) × Give words (Cut c)

-- the words are those of `info`
abbrev pub GiveInfo : List (List ℕ) → Type 0
GiveInfo words = Give words Info

-- the words are those of `convert`
abbrev pub GiveConvert : List (List ℕ) → Type 0
GiveConvert words = (c : ConvertValue) × Give words (Convert c)

-- the words are those of `query`
abbrev pub GiveQuery : List (List ℕ) → Type 0
GiveQuery words = (c : QueryValue) × Give words (Query c)

-- the words are those of `check`
abbrev pub GiveCheck : List (List ℕ) → Type 0
GiveCheck words = (time : ℕ) × Give words (Check time)

-- the words are those of `serve`
abbrev pub GiveServe : List (List ℕ) → Type 0
GiveServe words = (c : ServeValue) × Give words (Serve c)

-- the words are those of `drill`
abbrev pub GiveDrill : List (List ℕ) → Type 0
GiveDrill words = (number : ℕ) × Give words (Drill number)

-- what is so of the values of a command
abbrev pub IsSoundCommand : Command → Type 0
IsSoundCommand (Cut c) = IsSound c
IsSoundCommand Info = Unit {0}
IsSoundCommand (Convert c) = (1 ≤ c.ranks) × (c.ranks ≤ 256)
IsSoundCommand (Query c) = (1 ≤ c.cache) × (c.cache ≤ 65536)
IsSoundCommand (Check time) = Unit {0}
IsSoundCommand (Serve c) = IsSoundServe c
IsSoundCommand (Drill number) = (1 ≤ number) × (number ≤ 8)

-- which command it is
abbrev pub IsCut : Command → Type 0
IsCut (Cut c) = Unit {0}
IsCut Info = ⊥
IsCut (Convert c) = ⊥
IsCut (Query c) = ⊥
IsCut (Check time) = ⊥
IsCut (Serve c) = ⊥
IsCut (Drill number) = ⊥

abbrev pub IsInfo : Command → Type 0
IsInfo (Cut c) = ⊥
IsInfo Info = Unit {0}
IsInfo (Convert c) = ⊥
IsInfo (Query c) = ⊥
IsInfo (Check time) = ⊥
IsInfo (Serve c) = ⊥
IsInfo (Drill number) = ⊥

abbrev pub IsConvert : Command → Type 0
IsConvert (Cut c) = ⊥
IsConvert Info = ⊥
IsConvert (Convert c) = Unit {0}
IsConvert (Query c) = ⊥
IsConvert (Check time) = ⊥
IsConvert (Serve c) = ⊥
IsConvert (Drill number) = ⊥

abbrev pub IsQuery : Command → Type 0
IsQuery (Cut c) = ⊥
IsQuery Info = ⊥
IsQuery (Convert c) = ⊥
IsQuery (Query c) = Unit {0}
IsQuery (Check time) = ⊥
IsQuery (Serve c) = ⊥
IsQuery (Drill number) = ⊥

abbrev pub IsCheck : Command → Type 0
IsCheck (Cut c) = ⊥
IsCheck Info = ⊥
IsCheck (Convert c) = ⊥
IsCheck (Query c) = ⊥
IsCheck (Check time) = Unit {0}
IsCheck (Serve c) = ⊥
IsCheck (Drill number) = ⊥

abbrev pub IsServe : Command → Type 0
IsServe (Cut c) = ⊥
IsServe Info = ⊥
IsServe (Convert c) = ⊥
IsServe (Query c) = ⊥
IsServe (Check time) = ⊥
IsServe (Serve c) = Unit {0}
IsServe (Drill number) = ⊥

abbrev pub IsDrill : Command → Type 0
IsDrill (Cut c) = ⊥
IsDrill Info = ⊥
IsDrill (Convert c) = ⊥
IsDrill (Query c) = ⊥
IsDrill (Check time) = ⊥
IsDrill (Serve c) = ⊥
IsDrill (Drill number) = Unit {0}

-- the words behind the command are those of `cut`
abbrev pub AreSomeCutWords : List (List ℕ) → Type 0
AreSomeCutWords words = (c : CutWords) × AreCutWords words c

-- the words behind the command are those of `convert`
abbrev pub AreSomeConvertWords : List (List ℕ) → Type 0
AreSomeConvertWords words = (c : ConvertValue) × AreConvertWords words c

-- the words behind the command are those of `query`
abbrev pub AreSomeQueryWords : List (List ℕ) → Type 0
AreSomeQueryWords words = (c : QueryValue) × AreQueryWords words c

-- the place of a usage fault: that of the first word that is wrong or missing
abbrev pub IsUsagePlace : List (List ℕ) → ℕ → Type 0
IsUsagePlace words at = IsPlace GiveCommand words at
