-- The upper parts of a section, found among all its relocations.
use Rattle.std.proofs.Common.{◌≡◌, ℕ, ◌==◌, ◌&&◌, Bool, true, false, List, [], ◌∷◌, find, refl, sym, ap, ◌∙◌, Some}
use Rattle.std.specs.Prelude.{filter, if◌then◌else◌}
use Rattle.std.specs.List.Sorted.{IsNonDecreasingBy}
use Rattle.lk_base.specs.RelocKinds.{is_upper}
use Rattle.lk_tables.specs.declared.objects.Reloc.{Reloc}
use Rattle.lk_tables.specs.Files.{File, IsSound, relocs_at}
use Rattle.lk_tables.proofs.Finding.{ordered_at}
use Rattle.lk_tables.proofs.SoundFiles.{inside_body}
use Rattle.reloc_apply.specs.Values.{is_upper_at}

-- the first that passes two tests, among those that pass the second
both_tests : {X : Type 0} (a c : Bool) (u v : X) → (if a && c then u else v) ≡ (if c then (if a then u else v) else v)
both_tests true true u v = refl
both_tests true false u v = refl
both_tests false true u v = refl
both_tests false false u v = refl

find_if : {X : Type 0} (p : X → Bool) (c : Bool) (xs ys : List X) → (if c then find p xs else find p ys) ≡ find p (if c then xs else ys)
find_if p true xs ys = refl
find_if p false xs ys = refl

find_filtered : {X : Type 0} (p q : X → Bool) (xs : List X) → find (λ x. p x && q x) xs ≡ find p (filter q xs)
find_filtered p q [] = refl
find_filtered p q (x ∷ xs) =
    ap (λ rest. if p x && q x then Some x else rest) (find_filtered p q xs)
    ∙ both_tests (p x) (q x) (Some x) (find p (filter q xs))
    ∙ find_if p (q x) (x ∷ filter q xs) (filter q xs)

pub upper_found : (offset : ℕ) (relocs : List Reloc) → find (λ r. r.offset == offset) (filter (λ r. is_upper r.kind) relocs) ≡ find (is_upper_at offset) relocs
upper_found offset relocs = sym (find_filtered (λ (r : Reloc). r.offset == offset) (λ r. is_upper r.kind) relocs)

-- the relocations of a section stand in order of offset
pub relocs_ordered : (file : File) (k : ℕ) → IsSound file → IsNonDecreasingBy (λ (r : Reloc). r.offset) (relocs_at file k)
relocs_ordered file k sound = ordered_at (λ (r : Reloc). r.offset) file.object.relocs k (inside_body file sound).ordered
