-- The exit statuses of the causes.
use Rattle.std.specs.Prelude.{ℕ, List, [], ◌∷◌, ◌++◌, codes}
use Rattle.std.specs.Fmt.{decimal}
use Rattle.idx_commands.specs.declared.causes.Cause.{Cause}
use Rattle.idx_commands.specs.declared.causes.Cause.TheVariants as causes
use Rattle.idx_commands.specs.KindText.{kind_text, table_kind_text, wrong_kind_text}

abbrev pub status_of : Cause → ℕ
status_of causes.Done = 0
status_of (causes.Usage at) = 1
status_of (causes.Header line kind) = 2
status_of (causes.RawWrongSize want found) = 3
status_of causes.RawFault = 4
status_of causes.StoreFault = 5
status_of (causes.AlreadyPublished time) = 6
status_of causes.OtherHeader = 6
status_of (causes.NotPublished time) = 7
status_of causes.OtherAxes = 8
status_of causes.UnknownField = 8
status_of (causes.OutsideVolume axis) = 8
status_of (causes.BadLevels lo hi max) = 8
status_of (causes.TooLarge bytes) = 8
status_of (causes.NoStep time) = 8
status_of causes.SinkFault = 9
status_of (causes.BadTable file row kind) = 10
status_of causes.NoMemory = 11
status_of causes.DoorFault = 12
status_of (causes.NotSame file at why) = 16

-- the line that is printed of a cause
abbrev pub line_of : Cause → List ℕ
line_of causes.Done = []
line_of (causes.Usage at) = codes "usage at " ++ decimal at
line_of (causes.Header line kind) = codes "header line " ++ decimal line ++ codes " " ++ kind_text kind
line_of (causes.RawWrongSize want found) = codes "raw size want " ++ decimal want ++ codes " found " ++ decimal found
line_of causes.RawFault = codes "raw fault"
line_of causes.StoreFault = codes "store fault"
line_of (causes.AlreadyPublished time) = codes "published " ++ decimal time
line_of causes.OtherHeader = codes "other header"
line_of (causes.NotPublished time) = codes "not published " ++ decimal time
line_of causes.OtherAxes = codes "other axes"
line_of causes.UnknownField = codes "unknown field"
line_of (causes.OutsideVolume axis) = codes "outside axis " ++ decimal axis
line_of (causes.BadLevels lo hi max) = codes "levels " ++ decimal lo ++ codes " " ++ decimal hi ++ codes " " ++ decimal max
line_of (causes.TooLarge bytes) = codes "too large " ++ decimal bytes
line_of (causes.NoStep time) = codes "no step " ++ decimal time
line_of causes.SinkFault = codes "sink fault"
line_of (causes.BadTable file row kind) =
    codes "table file " ++ decimal file ++ codes " row " ++ decimal row ++ codes " " ++ table_kind_text kind
line_of causes.NoMemory = codes "no memory"
line_of causes.DoorFault = codes "door fault"
line_of (causes.NotSame file at why) =
    codes "not same file " ++ decimal file ++ codes " at " ++ decimal at ++ codes " " ++ wrong_kind_text why

-- the line as it is written to standard error; 10 is the line feed
abbrev pub message_of : Cause → List ℕ
message_of cause = codes "idxtool: " ++ line_of cause ++ 10 ∷ []
