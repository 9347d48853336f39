-- Files and their kinds by name. A name is its bytes.
use Rattle.std.specs.Prelude.{◌≡◌, ℕ, List, [], ◌∷◌, ◌++◌, Option, None, Some, IfSome, IsSomeAnd, unwrap_or}
use Rattle.std.specs.Option.{option_map}
use Rattle.std.specs.Ordering.{nat_cmp}
use Rattle.std.specs.Cmp.Lexicographic.{slice_cmp}
use Rattle.std.specs.FinMap.{FinMap, get, insert}
use Rattle.lk_depot.specs.declared.kinds.FileKind.{FileKind}

-- A finite map from names.
abbrev pub Named : Type 0 → Type 0
Named X = FinMap (slice_cmp nat_cmp) X

-- The bytes of each file.
abbrev pub Files : Type 0
Files = Named (List ℕ)

-- The kind with which each file was last begun.
abbrev pub Kinds : Type 0
Kinds = Named FileKind

-- The bytes of a file. A file that is not there counts as an empty one.
abbrev pub content : Files → List ℕ → List ℕ
content files name = unwrap_or (get files name) []

-- If the files are seen, these are the bytes of that one.
abbrev pub IsFile : Option Files → List ℕ → List ℕ → Type 0
IsFile files name bytes = IfSome files (λ m. get m name ≡ Some bytes)

-- The files are seen, and there is none of this name.
abbrev pub Lacks : Option Files → List ℕ → Type 0
Lacks files name = IsSomeAnd files (λ m. get m name ≡ None)

-- The files once these bytes stand at the end of that file. Nothing added makes no file.
unfoldable pub added : List ℕ → List ℕ → Files → Files
added name [] files = files
added name (byte ∷ bytes) files = insert files name (content files name ++ byte ∷ bytes)

-- The files once these bytes stand at the end of that file, where the files are seen.
abbrev pub added_if_seen : List ℕ → List ℕ → Option Files → Option Files
added_if_seen name bytes files = option_map (added name bytes) files

-- A map that contracts may not see, once the name has this value: files after a file was made, kinds after it was begun.
abbrev pub put_if_seen : {X : Type 0} → List ℕ → X → Option (Named X) → Option (Named X)
put_if_seen name value names = option_map (λ m. insert m name value) names
