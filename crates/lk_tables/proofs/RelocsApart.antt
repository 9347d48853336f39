-- In a section of which no check is broken no relocation's bytes meet those of another where bytes may move.
use Rattle.std.proofs.Common.{◌≡◌, ℕ, zero, suc, ◌<◌, false, ◌&&◌, ◌||◌, nat_lt, length, get_or, take, List, [], ◌∷◌, ◌++◌, map, sym, ap, ◌∙◌, arith}
use Rattle.std.specs.Prelude.{Ok}
use Rattle.std.specs.List.{AllPairs, list_any}
use Rattle.std.proofs.lemmas.Bool.{ltb-false}
use Rattle.std.proofs.lemmas.List.{append-nil, append_assoc, get_or-map, get_or-take, length-map, length-take-le}
use Rattle.lk_base.specs.RelocKinds.{moves_bytes}
use Rattle.lk_base.specs.declared.kinds.TheConstants.{BAD_RELOC}
use Rattle.lk_tables.specs.declared.objects.Reloc.{Reloc}
use Rattle.lk_tables.specs.Checks.{passes, ◌says◌, flaw_at}
use Rattle.lk_tables.specs.Inside.{IsRelocBefore}
use Rattle.lk_tables.specs.Relocations.{end_of, has_bytes, in_order, meets, overlap_checks, rela_place, reloc, relocs_of, target_bytes}
use Rattle.lk_tables.proofs.Passing.{line_passes}
use Rattle.lk_tables.proofs.SoundGroups.{all_none, pairs_map}
use Rattle.lk_tables.proofs.SoundHead.{second_false}

-- one that does not meet an earlier one
before : (contents : List ℕ) (p q : Reloc) → meets contents q p ≡ false → IsRelocBefore contents p q
unfolding meets
before contents p q clear some own moves =
    let mv = moves_bytes p.kind || moves_bytes q.kind in
    let near = nat_lt q.offset (end_of contents p) in
    let rest = second_false (has_bytes contents p) (has_bytes contents q && (mv && near)) clear some in
    let both = second_false (has_bytes contents q) (mv && near) rest own in
    ltb-false q.offset (end_of contents p) (second_false mv near both moves)

-- entry k of some meets none of those before
clear_at : (b : List ℕ) (i : ℕ) (earlier : List Reloc) (js : List ℕ) (k d : ℕ) → passes (overlap_checks b i earlier js) ≡ Ok tt → k < length js →
    list_any (meets (target_bytes b i) (reloc b i (get_or js k d))) (earlier ++ map (reloc b i) (take k js)) ≡ false
unfolding overlap_checks
clear_at b i earlier [] k d e lt = absurd (omega arith)
clear_at b i earlier (j ∷ js) zero d e lt =
    let line = line_passes (list_any (meets (target_bytes b i) (reloc b i j)) earlier says flaw_at BAD_RELOC i (rela_place b i j))
    (overlap_checks b i (earlier ++ (reloc b i j ∷ [])) js) (tt {0}) (tt {0}) e in
    ap (list_any (meets (target_bytes b i) (reloc b i j))) (append-nil earlier) ∙ line.0
clear_at b i earlier (j ∷ js) (suc k) d e lt =
    let line = line_passes (list_any (meets (target_bytes b i) (reloc b i j)) earlier says flaw_at BAD_RELOC i (rela_place b i j))
    (overlap_checks b i (earlier ++ (reloc b i j ∷ [])) js) (tt {0}) (tt {0}) e in
    ap (list_any (meets (target_bytes b i) (reloc b i (get_or js k d)))) (sym (append_assoc earlier (reloc b i j ∷ []) (map (reloc b i) (take k js))))
    ∙ clear_at b i (earlier ++ (reloc b i j ∷ [])) js k d line.1 (omega arith)

pub relocs_apart : (b : List ℕ) (i : ℕ) → passes (overlap_checks b i [] (in_order b i)) ≡ Ok tt → AllPairs (IsRelocBefore (target_bytes b i)) (relocs_of b i)
relocs_apart b i e =
    let js = in_order b i in
    let contents = target_bytes b i in
    pairs_map (IsRelocBefore contents) (reloc b i) js (λ x y d lt high.
    let q = reloc b i (get_or js y d) in
    let none = all_none (meets contents q) (map (reloc b i) (take y js)) (clear_at b i [] js y d e high) in
    let long : length (take y js) ≡ y = length-take-le y js (omega arith) in
    let at : get_or (map (reloc b i) (take y js)) x (reloc b i d) ≡ reloc b i (get_or js x d) =
    get_or-map (reloc b i) (take y js) x d (reloc b i d) (omega (arith, long)) ∙ ap (reloc b i) (get_or-take y js x d lt) in
    before contents (reloc b i (get_or js x d)) q
    (ap (meets contents q) (sym at) ∙ none x (reloc b i d) (omega (arith, long, length-map (take y js) (reloc b i)))))
