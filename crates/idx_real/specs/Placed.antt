-- A file of std that is read by places: it is sought to a place, and reads go on from there.
use Rattle.std.specs.Prelude.{◌≡◌, ℕ, ◌+◌, ◌≤◌, List, length, take, drop, Option, None, Some, IfSome}

-- all its bytes, where they are known and so is the place at which it stands
abbrev pub known_bytes : Option ℕ → Option (List ℕ) → Option (List ℕ)
known_bytes None bytes = None
known_bytes (Some place) bytes = bytes

-- Reads go on from the place at which the file stands: the bytes that are left to read are those from there on.
pub record ReadsFromPlace {F : Type 0} (left : F → Option (List ℕ)) (place : F → Option ℕ) (bytes : F → Option (List ℕ)) : Type 0 where
  pub from_place : (f : F) (at : ℕ) (known : List ℕ) → place f ≡ Some at → bytes f ≡ Some known → left f ≡ Some (drop at known)

-- the piece is the bytes from this place on, as many as it has, and they all lie in the bytes
pub record StandsAt (bytes : List ℕ) (at : ℕ) (piece : List ℕ) : Type 0 where
  pub within : at + length piece ≤ length bytes
  pub same : piece ≡ take (length piece) (drop at bytes)

-- The piece was read of the file from this place on: it stands there, where the bytes are known and reads go on from places.
abbrev pub WasReadAt : {F : Type 0} → (F → Option (List ℕ)) → (F → Option ℕ) → (F → Option (List ℕ)) → F → ℕ → List ℕ → Type 0
WasReadAt left place bytes f at piece =
    ReadsFromPlace left place bytes → IfSome (known_bytes (place f) (bytes f)) (λ known. StandsAt known at piece)

-- What a call found holds of its file: the one that was open, or, where none was, one that it opened.
pub record OfItsFile {F : Type 0} (was : Option F) (Found : F → Type 0) : Type 0 where
  pub file : F
  pub same : IfSome was (λ open_file. file ≡ open_file)
  pub found : Found file
