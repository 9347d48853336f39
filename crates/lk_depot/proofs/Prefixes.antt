-- A list that is added prefix by prefix.
use Rattle.std.proofs.Common.{◌≡◌, ℕ, ◌+◌, ◌-◌, List, ◌++◌, length, take, drop, refl, sym, ◌∙◌, ap, append_assoc, Some, None, Option}
use Rattle.std.proofs.lemmas.List.{take_rest}
use Rattle.std.proofs.Math.Seq.{take-add}
use Rattle.lk_depot.specs.Files.{Files, added_if_seen}
use Rattle.lk_depot.specs.Output.{said_if_seen}
use Rattle.lk_depot.proofs.NamedMaps.{added_if_seen_twice}

-- The prefix of the rest goes on where the prefix ended. The rest is spelled as a slice to the end is.
pub prefix_goes_on : (done n : ℕ) (bytes : List ℕ) → take done bytes ++ take n (take (length bytes - done) (drop done bytes)) ≡ take (done + n) bytes
prefix_goes_on done n bytes =
    ap (λ rest. take done bytes ++ take n rest) (take_rest bytes done) ∙ sym (take-add done n bytes)

pub added_if_seen_goes_on : (name bytes : List ℕ) (done n : ℕ) (files : Option Files)
    → added_if_seen name (take n (take (length bytes - done) (drop done bytes))) (added_if_seen name (take done bytes) files) ≡ added_if_seen name (take (done + n) bytes) files
added_if_seen_goes_on name bytes done n files =
    added_if_seen_twice name (take done bytes) _ files ∙ ap (λ prefix. added_if_seen name prefix files) (prefix_goes_on done n bytes)

pub said_if_seen_twice : (first second : List ℕ) (written : Option (List ℕ)) → said_if_seen second (said_if_seen first written) ≡ said_if_seen (first ++ second) written
said_if_seen_twice first second None = refl
said_if_seen_twice first second (Some before) = ap Some (append_assoc before first second)

pub said_if_seen_goes_on : (bytes : List ℕ) (done n : ℕ) (written : Option (List ℕ))
    → said_if_seen (take n (take (length bytes - done) (drop done bytes))) (said_if_seen (take done bytes) written) ≡ said_if_seen (take (done + n) bytes) written
said_if_seen_goes_on bytes done n written =
    said_if_seen_twice (take done bytes) _ written ∙ ap (λ prefix. said_if_seen prefix written) (prefix_goes_on done n bytes)
