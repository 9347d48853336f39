-- One pass over relocations in order of offset finds the first that meets an earlier one; a sort keeps the numbers of entries.
use Rattle.std.proofs.Common.{◌≡◌, ℕ, zero, suc, ◌+◌, ◌<◌, Bool, true, false, cond, ◌&&◌, ◌||◌, nat_lt, List, [], ◌∷◌, ◌++◌, length, map, drop, get_or, refl, sym, ap, ◌∙◌, arith, Option, Some, None, subst}
use Rattle.std.specs.Prelude.{Result, Ok, Err, find, fold}
use Rattle.std.specs.List.{All, list_any, range_with_len}
use Rattle.std.proofs.lemmas.Bool.Decides.{nat_tests}
use Rattle.std.proofs.lemmas.List.{at_drop_more, get_or-map, length-map, map-append}
use Rattle.std.proofs.lemmas.List.Elements.{All-from_recursion}
use Rattle.std.proofs.lemmas.List.FromFn.{length-range_with_len, length-map-range_with_len, get_or-map-range_with_len, fill_by_all}
use Rattle.std.proofs.lemmas.List.Sums.{fold-append}
use Rattle.std.specs.List.Sorted.{IsNonDecreasingBy}
use Rattle.std.proofs.Math.Bool.{or-false, or_assoc}
use Rattle.lk_base.proofs.StableOrder.{sorted_is}
use Rattle.lk_base.proofs.Ranges.{range_read}
use Rattle.lk_base.specs.Order.{put_in, stable_order}
use Rattle.lk_base.specs.RelocKinds.{moves_bytes}
use Rattle.lk_base.specs.declared.defects.Flaw.{Flaw}
use Rattle.lk_base.specs.declared.kinds.TheConstants.{BAD_RELOC, BAD_ULEB}
use Rattle.lk_tables.specs.declared.objects.Reloc.{Reloc}
use Rattle.lk_tables.specs.Checks.{passes, flaw_at}
use Rattle.lk_tables.specs.Files.{no_reloc}
use Rattle.lk_tables.proofs.SoundBody.{all_in_order, relocs_within}
use Rattle.lk_tables.specs.Relocations.{end_of, is_unpaired, meets, overlap_checks, pair_check, pair_checks, in_order, relocs_of, rela_count, rela_place, reloc, target_bytes}
use Rattle.elf_read.specs.declared.relocations.Extent.{Extent}
use Rattle.elf_read.specs.declared.relocations.Numbered.{Numbered}
use Rattle.elf_read.specs.Relocations.{extent_of, later_end, later_moving_end, is_met, first_met, numbered, number_at, all_numbered, offset_of}

further : (b : Bool) (x a y : ℕ) → nat_lt x (cond (b && nat_lt a y) y a) ≡ (nat_lt x a || (b && nat_lt x y))
further true x a y = grind (arith, nat_tests)
further false x a y = grind (arith, nat_tests)

mix : (h a p c x q e : Bool) → (h && ((a || ((p && c) && x)) || (q && (e || (p && x))))) ≡ ((h && (a || (q && e))) || (p && (h && ((c || q) && x))))
mix false a true c x q e = refl
mix false a false c x q e = refl
mix true true p c x q e = refl
mix true false false c x true true = refl
mix true false false c x true false = refl
mix true false false c x false e = refl
mix true false true true true true true = refl
mix true false true true true true false = refl
mix true false true true true false e = refl
mix true false true true false true true = refl
mix true false true true false true false = refl
mix true false true true false false e = refl
mix true false true false x true e = refl
mix true false true false x false e = refl

met_more : (c : List ℕ) (q p : Reloc) (a e : ℕ) →
    is_met (extent_of c q) (later_moving_end a (extent_of c p)) (later_end e (extent_of c p)) ≡ (is_met (extent_of c q) a e || meets c q p)
unfolding is_met meets later_moving_end later_end
met_more c q p a e =
    let has = nat_lt p.offset (end_of c p) in
    let own = nat_lt q.offset (end_of c q) in
    ap (λ b. own && (b || (moves_bytes q.kind && nat_lt q.offset (cond (has && nat_lt e (end_of c p)) (end_of c p) e))))
    (further (has && moves_bytes p.kind) q.offset a (end_of c p))
    ∙ ap (λ b. own && ((nat_lt q.offset a || ((has && moves_bytes p.kind) && nat_lt q.offset (end_of c p))) || (moves_bytes q.kind && b)))
    (further has q.offset e (end_of c p))
    ∙ mix own (nat_lt q.offset a) has (moves_bytes p.kind) (nat_lt q.offset (end_of c p)) (moves_bytes q.kind) (nat_lt q.offset e)

met_from : (c : List ℕ) (q : Reloc) (ps : List Reloc) (a e : ℕ) →
    is_met (extent_of c q) (fold later_moving_end a (map (extent_of c) ps)) (fold later_end e (map (extent_of c) ps)) ≡ (is_met (extent_of c q) a e || list_any (meets c q) ps)
met_from c q [] a e = sym (or-false (is_met (extent_of c q) a e))
met_from c q (p ∷ ps) a e =
    met_from c q ps (later_moving_end a (extent_of c p)) (later_end e (extent_of c p))
    ∙ ap (λ b. b || list_any (meets c q) ps) (met_more c q p a e)
    ∙ or_assoc (is_met (extent_of c q) a e) (meets c q p) (list_any (meets c q) ps)

none : (h q z : Bool) → z ≡ false → (h && (z || (q && z))) ≡ false
none h q true e = cc
none true true false e = refl
none true false false e = refl
none false q false e = refl

met_none : (q : Extent) → is_met q 0 0 ≡ false
unfolding is_met
met_none q = none (nat_lt q.from q.end) q.moves (nat_lt q.from 0) (grind (arith, nat_tests))

abbrev moving_before : List ℕ → List Reloc → ℕ
moving_before c ps = fold later_moving_end 0 (map (extent_of c) ps)

abbrev end_before : List ℕ → List Reloc → ℕ
end_before c ps = fold later_end 0 (map (extent_of c) ps)

-- the test by the two ends is the test of each pair
met_is : (c : List ℕ) (q : Reloc) (ps : List Reloc) → is_met (extent_of c q) (moving_before c ps) (end_before c ps) ≡ list_any (meets c q) ps
met_is c q ps = met_from c q ps 0 0 ∙ ap (λ b. b || list_any (meets c q) ps) (met_none (extent_of c q))

fold_more : (c : List ℕ) (f : ℕ → Extent → ℕ) (ps : List Reloc) (q : Reloc) → fold f 0 (map (extent_of c) (ps ++ (q ∷ []))) ≡ f (fold f 0 (map (extent_of c) ps)) (extent_of c q)
fold_more c f ps q = ap (fold f 0) (map-append (extent_of c) ps (q ∷ [])) ∙ fold-append f 0 (map (extent_of c) ps) (extent_of c q ∷ [])

-- one relocation on
pub first_more : (c : List ℕ) (moving_end end at : ℕ) (rs : List Reloc) (d : Reloc) → at < length rs →
    first_met moving_end end at (map (extent_of c) (drop at rs))
    ≡ cond (is_met (extent_of c (get_or rs at d)) moving_end end) (Some at)
    (first_met (later_moving_end moving_end (extent_of c (get_or rs at d))) (later_end end (extent_of c (get_or rs at d))) (at + 1) (map (extent_of c) (drop (at + 1) rs)))
unfolding first_met
first_more c moving_end end at rs d lt = at_drop_more (λ qs. first_met moving_end end at (map (extent_of c) qs)) rs at d lt

-- what is answered if one is met
abbrev pub reported : (ℕ → Flaw) → Option ℕ → Result (Unit {0}) Flaw
reported f None = Ok tt
reported f (Some at) = Err (f at)

reported_step : (f : ℕ → Flaw) (b : Bool) (x : Flaw) (at : ℕ) (r : Result (Unit {0}) Flaw) (o : Option ℕ) → f at ≡ x → r ≡ reported f o → cond b (Err x) r ≡ reported f (cond b (Some at) o)
reported_step f true x at r o here rest = ap Err (sym here)
reported_step f false x at r o here rest = rest

overlap_from : (b : List ℕ) (i : ℕ) (js : List ℕ) (before : List Reloc) (at : ℕ) (f : ℕ → Flaw) →
    ((k : ℕ) → k < length js → f (at + k) ≡ flaw_at BAD_RELOC i (rela_place b i (get_or js k 0))) →
    passes (overlap_checks b i before js) ≡ reported f (first_met (moving_before (target_bytes b i) before) (end_before (target_bytes b i) before) at (map (extent_of (target_bytes b i)) (map (reloc b i) js)))
unfolding overlap_checks first_met
overlap_from b i [] before at f flaws = refl
overlap_from b i (j ∷ js) before at f flaws =
    let q = reloc b i j in
    let rest = overlap_from b i js (before ++ (q ∷ [])) (at + 1) f (λ k lt.
    let on : at + 1 + k ≡ at + suc k = omega arith in
    ap f on ∙ flaws (suc k) (omega arith)) in
    let ends : first_met (moving_before (target_bytes b i) (before ++ (q ∷ []))) (end_before (target_bytes b i) (before ++ (q ∷ []))) (at + 1) (map (extent_of (target_bytes b i)) (map (reloc b i) js))
    ≡ first_met (later_moving_end (moving_before (target_bytes b i) before) (extent_of (target_bytes b i) q)) (later_end (end_before (target_bytes b i) before) (extent_of (target_bytes b i) q)) (at + 1) (map (extent_of (target_bytes b i)) (map (reloc b i) js)) =
    ap (λ m. first_met m (end_before (target_bytes b i) (before ++ (q ∷ []))) (at + 1) (map (extent_of (target_bytes b i)) (map (reloc b i) js))) (fold_more (target_bytes b i) later_moving_end before q)
    ∙ ap (λ e. first_met (later_moving_end (moving_before (target_bytes b i) before) (extent_of (target_bytes b i) q)) e (at + 1) (map (extent_of (target_bytes b i)) (map (reloc b i) js))) (fold_more (target_bytes b i) later_end before q) in
    let here : f at ≡ flaw_at BAD_RELOC i (rela_place b i j) = (let same : at ≡ at + 0 = omega arith in ap f same) ∙ flaws 0 (omega arith) in
    ap (λ c. cond c (Err (flaw_at BAD_RELOC i (rela_place b i j))) (passes (overlap_checks b i (before ++ (q ∷ [])) js))) (sym (met_is (target_bytes b i) q before))
    ∙ reported_step f (is_met (extent_of (target_bytes b i) q) (moving_before (target_bytes b i) before) (end_before (target_bytes b i) before)) (flaw_at BAD_RELOC i (rela_place b i j)) at
    (passes (overlap_checks b i (before ++ (q ∷ [])) js)) _ here (rest ∙ ap (reported f) ends)

overlap_reported : (b : List ℕ) (i : ℕ) (js : List ℕ) (f : ℕ → Flaw) (relocs : List Reloc) (r : Option ℕ) →
    ((k : ℕ) → k < length js → f k ≡ flaw_at BAD_RELOC i (rela_place b i (get_or js k 0))) →
    relocs ≡ map (reloc b i) js → r ≡ first_met 0 0 0 (map (extent_of (target_bytes b i)) relocs) → reported f r ≡ passes (overlap_checks b i [] js)
overlap_reported b i js f relocs r flaws are is =
    ap (reported f) (is ∙ ap (λ rs. first_met 0 0 0 (map (extent_of (target_bytes b i)) rs)) are)
    ∙ sym (overlap_from b i js [] 0 f (λ k lt. let same : 0 + k ≡ k = omega arith in ap f same ∙ flaws k lt))

-- the relocations in file order
pub length_relocs : (b : List ℕ) (i : ℕ) (rs : List Reloc) → rs ≡ map (reloc b i) (range_with_len 0 (rela_count b i)) → length rs ≡ rela_count b i
length_relocs b i rs are = ap length are ∙ length-map-range_with_len (reloc b i) 0 (rela_count b i)

reloc_at : (b : List ℕ) (i : ℕ) (rs : List Reloc) (k : ℕ) → rs ≡ map (reloc b i) (range_with_len 0 (rela_count b i)) → k < rela_count b i → get_or rs k no_reloc ≡ reloc b i k
reloc_at b i rs k are lt =
    ap (λ xs. get_or xs k no_reloc) are ∙ get_or-map-range_with_len (reloc b i) 0 (rela_count b i) k k no_reloc lt (omega arith)

-- if their offsets rise the stable order is that of the file
pub rising_order : (b : List ℕ) (i : ℕ) (rs : List Reloc) → rs ≡ map (reloc b i) (range_with_len 0 (rela_count b i)) →
    IsNonDecreasingBy (λ (r : Reloc). r.offset) rs → in_order b i ≡ range_with_len 0 (rela_count b i)
rising_order b i rs are up =
    let n = rela_count b i in
    let key : ℕ → ℕ = λ j. (reloc b i j).offset in
    let long : length (range_with_len 0 n) ≡ n = length-range_with_len 0 n in
    let at : (k d : ℕ) → k < n → (get_or rs k no_reloc).offset ≡ key (get_or (range_with_len 0 n) k d) =
    λ k d lt. ap (λ (r : Reloc). r.offset) (reloc_at b i rs k are lt) ∙ ap key (sym (range_read n k d lt)) in
    sym (sorted_is key (range_with_len 0 n) (range_with_len 0 n)
    (λ x y d le lt.
    let high : y < n = omega (arith, long) in
    let h = up x y no_reloc le (omega (arith, length_relocs b i rs are)) in
    omega (arith, h, at x d (omega arith), at y d high)) (λ z. refl))

-- the checks of entries in order answer as the one pass does: of those that rise in the file, and of those that were sorted
pub rising_reported : (b : List ℕ) (i : ℕ) (rs : List Reloc) (r : Option ℕ) → rs ≡ map (reloc b i) (range_with_len 0 (rela_count b i)) →
    IsNonDecreasingBy (λ (r : Reloc). r.offset) rs → r ≡ first_met 0 0 0 (map (extent_of (target_bytes b i)) rs) →
    reported (λ k. flaw_at BAD_RELOC i (rela_place b i k)) r ≡ passes (overlap_checks b i [] (in_order b i))
rising_reported b i rs r are up is =
    let n = rela_count b i in
    overlap_reported b i (range_with_len 0 n) (λ k. flaw_at BAD_RELOC i (rela_place b i k)) rs r
    (λ k lt. ap (λ j. flaw_at BAD_RELOC i (rela_place b i j)) (sym (range_read n k 0 (omega (arith, length-range_with_len 0 n))))) are is
    ∙ ap (λ js. passes (overlap_checks b i [] js)) (sym (rising_order b i rs are up))

pub sorted_reported : (b : List ℕ) (i : ℕ) (es : List Numbered) (rs : List Reloc) (r : Option ℕ) (d : Numbered) → es ≡ map (numbered b i) (in_order b i) →
    rs ≡ relocs_of b i → r ≡ first_met 0 0 0 (map (extent_of (target_bytes b i)) rs) →
    reported (λ k. flaw_at BAD_RELOC i (rela_place b i (get_or es k d).number)) r ≡ passes (overlap_checks b i [] (in_order b i))
sorted_reported b i es rs r d entries are is =
    overlap_reported b i (in_order b i) (λ k. flaw_at BAD_RELOC i (rela_place b i (get_or es k d).number)) rs r
    (λ k lt. ap (λ (e : Numbered). flaw_at BAD_RELOC i (rela_place b i e.number))
    (ap (λ xs. get_or xs k d) entries ∙ get_or-map (numbered b i) (in_order b i) k 0 d lt)) are is

-- the checks of pairs
pairs_from : (b : List ℕ) (i : ℕ) (rs : List Reloc) (f : ℕ → Flaw) (n a : ℕ) → rs ≡ relocs_of b i →
    ((k : ℕ) → k < a + n → f k ≡ flaw_at BAD_ULEB i (rela_place b i (get_or (in_order b i) k 0))) →
    passes (map (pair_check b i) (range_with_len a n)) ≡ reported f (find (is_unpaired rs) (range_with_len a n))
unfolding pair_check
pairs_from b i rs f zero a are flaws = refl
pairs_from b i rs f (suc n) a are flaws =
    let rest = pairs_from b i rs f n (a + 1) are (λ k lt. flaws k (omega (arith, lt))) in
    ap (λ (list : List Reloc). cond (is_unpaired list a) (Err (flaw_at BAD_ULEB i (rela_place b i (get_or (in_order b i) a 0)))) (passes (map (pair_check b i) (range_with_len (a + 1) n)))) (sym are)
    ∙ reported_step f (is_unpaired rs a) (flaw_at BAD_ULEB i (rela_place b i (get_or (in_order b i) a 0))) a
    (passes (map (pair_check b i) (range_with_len (a + 1) n))) (find (is_unpaired rs) (range_with_len (a + 1) n)) (flaws a (omega arith)) rest

pairs_reported : (b : List ℕ) (i : ℕ) (rs : List Reloc) (f : ℕ → Flaw) (r : Option ℕ) → rs ≡ relocs_of b i → r ≡ find (is_unpaired rs) (range_with_len 0 (length rs)) →
    ((k : ℕ) → k < length rs → f k ≡ flaw_at BAD_ULEB i (rela_place b i (get_or (in_order b i) k 0))) → reported f r ≡ passes (pair_checks b i)
unfolding pair_checks
pairs_reported b i rs f r are is flaws =
    let long : length rs ≡ length (in_order b i) = ap length are ∙ length-map (in_order b i) (reloc b i) in
    ap (reported f) is ∙ sym (pairs_from b i rs f (length rs) 0 are (λ k lt. flaws k (omega (arith, lt))))
    ∙ ap (λ n. passes (map (pair_check b i) (range_with_len 0 n))) long

pub rising_pairs : (b : List ℕ) (i : ℕ) (rs : List Reloc) (r : Option ℕ) → rs ≡ map (reloc b i) (range_with_len 0 (rela_count b i)) →
    IsNonDecreasingBy (λ (r : Reloc). r.offset) rs → r ≡ find (is_unpaired rs) (range_with_len 0 (length rs)) →
    reported (λ k. flaw_at BAD_ULEB i (rela_place b i k)) r ≡ passes (pair_checks b i)
rising_pairs b i rs r are up is =
    let order = rising_order b i rs are up in
    pairs_reported b i rs (λ k. flaw_at BAD_ULEB i (rela_place b i k)) r (are ∙ ap (map (reloc b i)) (sym order)) is (λ k lt.
    ap (λ j. flaw_at BAD_ULEB i (rela_place b i j))
    (sym (ap (λ (js : List ℕ). get_or js k 0) order ∙ range_read (rela_count b i) k 0 (omega (arith, lt, length_relocs b i rs are)))))

pub sorted_pairs : (b : List ℕ) (i : ℕ) (es : List Numbered) (rs : List Reloc) (r : Option ℕ) (d : Numbered) → es ≡ map (numbered b i) (in_order b i) →
    rs ≡ relocs_of b i → r ≡ find (is_unpaired rs) (range_with_len 0 (length rs)) →
    reported (λ k. flaw_at BAD_ULEB i (rela_place b i (get_or es k d).number)) r ≡ passes (pair_checks b i)
sorted_pairs b i es rs r d entries are is =
    let long : length rs ≡ length (in_order b i) = ap length are ∙ length-map (in_order b i) (reloc b i) in
    pairs_reported b i rs (λ k. flaw_at BAD_ULEB i (rela_place b i (get_or es k d).number)) r are is (λ k lt.
    ap (λ (e : Numbered). flaw_at BAD_ULEB i (rela_place b i e.number))
    (ap (λ xs. get_or xs k d) entries ∙ get_or-map (numbered b i) (in_order b i) k 0 d (omega (arith, lt, long))))

numbered_is : (b : List ℕ) (i : ℕ) (rs : List Reloc) → rs ≡ map (reloc b i) (range_with_len 0 (rela_count b i)) →
    all_numbered rs ≡ map (numbered b i) (range_with_len 0 (rela_count b i))
numbered_is b i rs are =
    let n = rela_count b i in
    let with_number : ℕ → Reloc → Numbered = λ k r. record { number = k; reloc = r } in
    let long : length rs ≡ n = length_relocs b i rs are in
    fill_by_all (numbered b i) (all_numbered rs) n (numbered b i 0) (length-map-range_with_len (number_at rs) 0 (length rs) ∙ long) (λ k lt.
    get_or-map-range_with_len (number_at rs) 0 (length rs) k k (numbered b i 0) (omega (arith, long)) (omega arith)
    ∙ ap (with_number k) (reloc_at b i rs k are lt))

-- each entry has a place
pub number_below : (b : List ℕ) (i : ℕ) (es : List Numbered) (rs : List Reloc) (k : ℕ) (d : Numbered) → es ≡ map (numbered b i) (in_order b i) →
    rs ≡ relocs_of b i → k < length rs → (get_or es k d).number < rela_count b i
number_below b i es rs k d entries are lt =
    let long : length rs ≡ length (in_order b i) = ap length are ∙ length-map (in_order b i) (reloc b i) in
    let high : k < length (in_order b i) = omega (arith, long) in
    let P : ℕ → Type 0 = λ j. j < rela_count b i in
    subst P (sym (ap (λ xs. (get_or xs k d).number) entries ∙ ap (λ (e : Numbered). e.number) (get_or-map (numbered b i) (in_order b i) k 0 d high)))
    (All-from_recursion P (in_order b i) (all_in_order b P i (λ j lt. lt)) k 0 high)

-- a map that keeps the key goes through the stable order
put_map : {X Y : Type 0} (key : Y → ℕ) (f : X → Y) (x : X) (xs : List X) → put_in key (f x) (map f xs) ≡ map f (put_in (λ z. key (f z)) x xs)
put_map key f x [] = refl
put_map key f x (y ∷ ys) =
    put_cond f (nat_lt (key (f y)) (key (f x))) x y ys _ _ (put_map key f x ys)
  where
    put_cond : {X Y : Type 0} (f : X → Y) (b : Bool) (x y : X) (ys : List X) (p : List Y) (q : List X) → p ≡ map f q →
        cond b (f y ∷ p) (f x ∷ (f y ∷ map f ys)) ≡ map f (cond b (y ∷ q) (x ∷ (y ∷ ys)))
    put_cond f true x y ys p q e = ap (λ l. f y ∷ l) e
    put_cond f false x y ys p q e = refl

order_map : {X Y : Type 0} (key : Y → ℕ) (f : X → Y) (xs : List X) → stable_order key (map f xs) ≡ map f (stable_order (λ x. key (f x)) xs)
unfolding stable_order
order_map key f [] = refl
order_map key f (x ∷ xs) = ap (put_in key (f x)) (order_map key f xs) ∙ put_map key f x (stable_order (λ z. key (f z)) xs)

-- what the sort gives
pub sorted_entries : (b : List ℕ) (i : ℕ) (rs : List Reloc) → rs ≡ map (reloc b i) (range_with_len 0 (rela_count b i)) →
    stable_order offset_of (all_numbered rs) ≡ map (numbered b i) (in_order b i)
sorted_entries b i rs are =
    ap (stable_order offset_of) (numbered_is b i rs are) ∙ order_map offset_of (numbered b i) (range_with_len 0 (rela_count b i))

map_map : {X Y Z : Type 0} (f : X → Y) (g : Y → Z) (xs : List X) → map g (map f xs) ≡ map (λ x. g (f x)) xs
map_map f g [] = refl
map_map f g (x ∷ xs) = ap (λ l. g (f x) ∷ l) (map_map f g xs)

pub sorted_relocs : (b : List ℕ) (i : ℕ) (rs : List Reloc) (es : List Numbered) (out : List Reloc) → rs ≡ map (reloc b i) (range_with_len 0 (rela_count b i)) →
    es ≡ stable_order offset_of (all_numbered rs) → out ≡ map (λ (e : Numbered). e.reloc) es → out ≡ relocs_of b i
sorted_relocs b i rs es out are sorted from =
    from ∙ ap (map (λ (e : Numbered). e.reloc)) (sorted ∙ sorted_entries b i rs are) ∙ map_map (numbered b i) (λ (e : Numbered). e.reloc) (in_order b i)

-- what holds of each relocation in file order holds of each in order of offset
pub all_sorted : (b : List ℕ) (i : ℕ) (P : Reloc → Type 0) (rs : List Reloc) → rs ≡ map (reloc b i) (range_with_len 0 (rela_count b i)) → All P rs → All P (relocs_of b i)
all_sorted b i P rs are all =
    relocs_within b P i (λ j lt. subst P (reloc_at b i rs j are lt) (all j no_reloc (omega (arith, length_relocs b i rs are))))
