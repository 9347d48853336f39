-- A file begun and written.
use Rattle.std.proofs.Common.{◌≡◌, ℕ, ◌<◌, List, [], length, take, Option, ◌∙◌, ap}
use Rattle.lk_depot.specs.declared.kinds.FileKind.{FileKind}
use Rattle.lk_depot.specs.Files.{Files, added_if_seen, put_if_seen}
use Rattle.lk_depot.specs.Store.{Store}
use Rattle.lk_depot.proofs.NamedMaps.{added_if_seen_to_new}
use Rattle.link_driver.specs.Ends.{IsCut, cut_short}

-- all bytes after an empty file
pub whole_behind : (name bytes : List ℕ) (before begun after : Option Files)
    → begun ≡ put_if_seen name [] before → after ≡ added_if_seen name bytes begun → after ≡ put_if_seen name bytes before
whole_behind name bytes before begun after was is = is ∙ ap (added_if_seen name bytes) was ∙ added_if_seen_to_new name bytes before

-- some bytes after an empty file
pub cut_behind : (store store' store'' : Store) (name bytes : List ℕ) (kind : FileKind)
    → store'.files ≡ put_if_seen name [] store.files → store'.kinds ≡ put_if_seen name kind store.kinds → store''.kinds ≡ store'.kinds
    → (n : ℕ) × (n < length bytes) × (store''.files ≡ added_if_seen name (take n bytes) store'.files)
    → IsCut store store'' name kind bytes
cut_behind store store' store'' name bytes kind files kinds kept (n, shorter, cut) =
    cut_short n shorter (whole_behind name (take n bytes) store.files store'.files store''.files files cut) (kept ∙ kinds)
