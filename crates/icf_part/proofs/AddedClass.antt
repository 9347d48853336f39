-- The columns of the classes after a new class is added.
use Rattle.std.proofs.Common.{◌≡◌, ◌≢◌, ◌⊎◌, ℕ, zero, suc, ◌+◌, ◌-◌, ◌<◌, ◌≤◌, ◌==◌, Bool, true, false, List, [], ◌∷◌, ◌++◌, length, get_or, set, Contains, refl, sym, ap, ◌∙◌, subst, ⊎_elim, inl, inr, arith}
use Rattle.std.proofs.lemmas.Bool.{both_ways, cases_eq, cases_lt, ne_eqb}
use Rattle.std.proofs.lemmas.List.{get_or-set_other, get_or-set_same, get_or_append_left, get_or_past, length-append, length-set}
use Rattle.std.proofs.lemmas.List.Elements.{Contains-append_left, Contains-append_right, Contains-append_cases}
use Rattle.lk_base.proofs.Membership.{only_one}
use Rattle.icf_part.specs.Classes.{GoesOn, IsKept, IsSettled, Waits, class_count, size_of}
use Rattle.icf_part.specs.Counts.{how_many}
use Rattle.icf_part.proofs.Counting.{more, none, same}
use Rattle.icf_part.proofs.PartSplit.{IsLeft, IsSent, at, sent_finer}
use Rattle.icf_part.proofs.Relabelled.{IsRelabelled}

-- reads of a list with one element more
pub last_at : {X : Type 0} (xs : List X) (x d : X) → get_or (xs ++ x ∷ []) (length xs) d ≡ x
last_at [] x d = refl
last_at (y ∷ xs) x d = last_at xs x d

pub past_last : {X : Type 0} (xs : List X) (x d : X) (k : ℕ) → length xs < k → get_or (xs ++ x ∷ []) k d ≡ d
past_last xs x d k lt = get_or_past (xs ++ x ∷ []) k d (omega (arith, lt, length-append xs (x ∷ [])))

-- which of two classes waits from now on
pub record IsNext (waits : List Bool) (from to next : ℕ) : Type 0 where
  pub one : (next ≡ to) ⊎ (next ≡ from)
  pub other : next ≡ from → Waits waits from → ⊥

none_passes : (n : ℕ) → how_many (λ a. false) n ≡ 0
none_passes zero = none (λ a. false)
none_passes (suc n) = let e : suc n ≡ n + 1 = omega arith in ap (how_many (λ a. false)) e ∙ omega (arith, more (λ a. false) n, none_passes n)

none_in : (a : ℕ) → Contains [] a → ⊥
none_in a (k, lt, e) = omega arith

nobody : (labels : List ℕ) (label : ℕ) → ((a : ℕ) → a < length labels → get_or labels a 0 ≢ label) → size_of label labels ≡ 0
nobody labels label isnt = same (λ a. get_or labels a 0 == label) (λ a. false) (length labels) (λ a lt. ne_eqb (get_or labels a 0) label (isnt a lt)) ∙ none_passes (length labels)

module _ (n from moved next : ℕ) (part old new sizes : List ℕ) (members : List (List ℕ)) (waits : List Bool) (queue : List ℕ)
    (kept : IsKept n old sizes members waits queue) (lf : from < length sizes) (is : IsRelabelled old part from (length sizes) new moved)
    (inside : (a : ℕ) → Contains part a → a < n) (which : IsNext waits from (length sizes) next) where
  fresh : (a : ℕ) → a < length old → get_or old a 0 ≢ length sizes
  fresh a la e = let low = kept.below a (omega (arith, la, kept.wide)) in omega (arith, low, e)

  apart : from ≢ length sizes
  apart e = omega (arith, lf, e)

  each : (a : ℕ) → a < n → IsSent from (length sizes) part old new a ⊎ IsLeft from part old new a
  each a la = at old part from (length sizes) new moved is fresh apart a (omega (arith, la, kept.wide))

  longer : length (waits ++ false ∷ []) ≡ length sizes + 1
  longer = let e = length-append waits (false ∷ []) in let m = kept.marks in omega arith

  next_in : next < length sizes + 1
  next_in = ⊎_elim (λ (e : next ≡ length sizes). omega arith) (λ (e : next ≡ from). omega (arith, lf)) which.one

  waits_next : Waits (set (waits ++ false ∷ []) next true) next
  waits_next = get_or-set_same (waits ++ false ∷ []) next true false (omega (arith, longer, next_in))

  still_waits : (label : ℕ) → Waits waits label → Waits (set (waits ++ false ∷ []) next true) label
  still_waits label w = ⊎_elim
      (λ (here : label ≡ next). let P : ℕ → Type 0 = Waits (set (waits ++ false ∷ []) next true) in subst P (sym here) waits_next)
      (λ (other : label ≢ next). get_or-set_other (waits ++ false ∷ []) next label true false other ∙ ⊎_elim
      (λ (lt : label < length waits). get_or_append_left waits (false ∷ []) false label lt ∙ w)
      (λ (past : length waits ≤ label). absurd (both_ways (get_or waits label false) (get_or_past waits label false past) w))
      (cases_lt label (length waits)))
      (cases_eq label next)

  no_mark : (label : ℕ) → length waits ≤ label → get_or (waits ++ false ∷ []) label false ≡ false
  no_mark label past = ⊎_elim
      (λ (here : label ≡ length waits). ap (λ k. get_or (waits ++ false ∷ []) k false) here ∙ last_at waits false false)
      (λ (other : label ≢ length waits). past_last waits false false label (omega (arith, past, other)))
      (cases_eq label (length waits))

  new_waits : (label : ℕ) → Waits (set (waits ++ false ∷ []) next true) label → (label ≡ next) ⊎ Waits waits label
  new_waits label w = ⊎_elim
      (λ (here : label ≡ next). inl here)
      (λ (other : label ≢ next).
      let e : get_or (waits ++ false ∷ []) label false ≡ true = sym (get_or-set_other (waits ++ false ∷ []) next label true false other) ∙ w in
      ⊎_elim
      (λ (lt : label < length waits). inr (sym (get_or_append_left waits (false ∷ []) false label lt) ∙ e))
      (λ (past : length waits ≤ label). absurd (both_ways (get_or (waits ++ false ∷ []) label false) (no_mark label past) e))
      (cases_lt label (length waits)))
      (cases_eq label next)

  -- who has neither label is where it was
  same_size : (label : ℕ) → label ≢ from → label ≢ length sizes → size_of label new ≡ size_of label old
  same_size label nf nt =
      ap (how_many (λ a. get_or new a 0 == label)) is.wide
      ∙ same (λ a. get_or new a 0 == label) (λ a. get_or old a 0 == label) (length old) (λ a lt. ⊎_elim
      (λ (s : IsSent from (length sizes) part old new a).
      ne_eqb (get_or new a 0) label (λ e. nt (sym e ∙ s.has)) ∙ sym (ne_eqb (get_or old a 0) label (λ e. nf (sym e ∙ s.had))))
      (λ (l : IsLeft from part old new a). ap (λ k. k == label) l.kept)
      (each a (omega (arith, lt, kept.wide))))

  counted_at : (label : ℕ) → label < length sizes + 1 → get_or (set sizes from (get_or sizes from 0 - moved) ++ moved ∷ []) label 0 ≡ size_of label new
  counted_at label lt =
      let stay = get_or sizes from 0 - moved in
      let long = length-set sizes from stay in
      let less = is.less in
      let more_is = is.more in
      ⊎_elim
      (λ (here : label ≡ length sizes).
      let fewest = nobody old (length sizes) fresh in
      let e = ap (λ k. get_or (set sizes from stay ++ moved ∷ []) k 0) (here ∙ sym long) ∙ last_at (set sizes from stay) moved 0 in
      let f = ap (λ k. size_of k new) here in
      omega (arith, e, f, fewest, more_is))
      (λ (other : label ≢ length sizes).
      let low : label < length (set sizes from stay) = omega (arith, lt, other, long) in
      let read = get_or_append_left (set sizes from stay) (moved ∷ []) 0 label low in
      ⊎_elim
      (λ (own : label ≡ from).
      let e = ap (λ k. get_or (set sizes from stay) k 0) own ∙ get_or-set_same sizes from stay 0 lf in
      let f = ap (λ k. size_of k new) own in
      let c = kept.counted from lf in
      omega (arith, read, e, f, c, less))
      (λ (third : label ≢ from).
      let e = get_or-set_other sizes from label stay 0 third in
      let c = kept.counted label (omega (arith, low, long)) in
      let f = same_size label third other in
      omega (arith, read, e, c, f))
      (cases_eq label from))
      (cases_eq label (length sizes))

  new_has : (a label : ℕ) → get_or new a 0 ≡ label → Waits (set (waits ++ false ∷ []) next true) label → Waits (set (waits ++ false ∷ []) next true) (get_or new a 0)
  new_has a label e w = let P : ℕ → Type 0 = Waits (set (waits ++ false ∷ []) next true) in subst P (sym e) w

  -- if the old label waits the new one does
  from_waits : Waits waits from → Waits (set (waits ++ false ∷ []) next true) (length sizes)
  from_waits w = ⊎_elim
      (λ (e : next ≡ length sizes). let P : ℕ → Type 0 = Waits (set (waits ++ false ∷ []) next true) in subst P e waits_next)
      (λ (e : next ≡ from). absurd (which.other e w))
      which.one

  keeps_waiting : (x : ℕ) → x < n → Waits waits (get_or old x 0) → Waits (set (waits ++ false ∷ []) next true) (get_or new x 0)
  keeps_waiting x lx w = ⊎_elim
      (λ (s : IsSent from (length sizes) part old new x). let P : ℕ → Type 0 = Waits waits in new_has x (length sizes) s.has (from_waits (subst P s.had w)))
      (λ (l : IsLeft from part old new x). new_has x (get_or old x 0) l.kept (still_waits (get_or old x 0) w))
      (each x lx)

  -- one went, and one stayed
  parted_waits : (x y : ℕ) → get_or new x 0 ≡ length sizes → get_or new y 0 ≡ from → IsSettled new (set (waits ++ false ∷ []) next true) x y
  parted_waits x y goes stays = ⊎_elim
      (λ (e : next ≡ length sizes). let P : ℕ → Type 0 = Waits (set (waits ++ false ∷ []) next true) in inr (inl (new_has x (length sizes) goes (subst P e waits_next))))
      (λ (e : next ≡ from). let P : ℕ → Type 0 = Waits (set (waits ++ false ∷ []) next true) in inr (inr (new_has y from stays (subst P e waits_next))))
      which.one

  other_way : (x y : ℕ) → IsSettled new (set (waits ++ false ∷ []) next true) x y → IsSettled new (set (waits ++ false ∷ []) next true) y x
  other_way x y s = ⊎_elim
      (λ (e : get_or new x 0 ≡ get_or new y 0). inl (sym e))
      (λ w. ⊎_elim (λ (a : Waits (set (waits ++ false ∷ []) next true) (get_or new x 0)). inr (inr a)) (λ (b : Waits (set (waits ++ false ∷ []) next true) (get_or new y 0)). inr (inl b)) w)
      s

  settles : (x y : ℕ) → x < n → y < n → IsSettled old waits x y → IsSettled new (set (waits ++ false ∷ []) next true) x y
  settles x y lx ly s = ⊎_elim
      (λ (e : get_or old x 0 ≡ get_or old y 0). ⊎_elim
      (λ (a : IsSent from (length sizes) part old new x). ⊎_elim
      (λ (b : IsSent from (length sizes) part old new y). inl (a.has ∙ sym b.has))
      (λ (l : IsLeft from part old new y). parted_waits x y a.has (l.kept ∙ sym e ∙ a.had))
      (each y ly))
      (λ (l : IsLeft from part old new x). ⊎_elim
      (λ (b : IsSent from (length sizes) part old new y). other_way y x (parted_waits y x b.has (l.kept ∙ e ∙ b.had)))
      (λ (m : IsLeft from part old new y). inl (l.kept ∙ e ∙ sym m.kept))
      (each y ly))
      (each x lx))
      (λ w. ⊎_elim
      (λ (a : Waits waits (get_or old x 0)). inr (inl (keeps_waiting x lx a)))
      (λ (b : Waits waits (get_or old y 0)). inr (inr (keeps_waiting y ly b)))
      w)
      s

  pub added_kept : class_count new ≡ class_count old + 1 → IsKept n new (set sizes from (get_or sizes from 0 - moved) ++ moved ∷ []) (members ++ part ∷ []) (set (waits ++ false ∷ []) next true) (queue ++ next ∷ [])
  added_kept count =
      let wide = kept.wide in
      let long : length (set sizes from (get_or sizes from 0 - moved) ++ moved ∷ []) ≡ length sizes + 1 =
      length-append (set sizes from (get_or sizes from 0 - moved)) (moved ∷ []) ∙ ap (λ k. k + 1) (length-set sizes from (get_or sizes from 0 - moved)) in
      let lists = kept.member_lists in
      record {
        wide = is.wide ∙ wide;
        below = λ a la. ⊎_elim
            (λ (s : IsSent from (length sizes) part old new a). let e = s.has in omega (arith, e, long))
            (λ (l : IsLeft from part old new a). let e = l.kept in let low = kept.below a la in omega (arith, e, low, long))
            (each a la);
        counted = λ label lt. counted_at label (omega (arith, lt, long));
        member_lists = let e = length-append members (part ∷ []) in omega (arith, e, lists, long);
        listed = λ a la. ⊎_elim
            (λ (s : IsSent from (length sizes) part old new a).
            let e : get_or (members ++ part ∷ []) (get_or new a 0) [] ≡ part = ap (λ k. get_or (members ++ part ∷ []) k []) (s.has ∙ sym lists) ∙ last_at members part [] in
            let P : List ℕ → Type 0 = λ l. Contains l a in subst P (sym e) s.listed)
            (λ (l : IsLeft from part old new a).
            let low = kept.below a la in
            let e : get_or (members ++ part ∷ []) (get_or new a 0) [] ≡ get_or members (get_or old a 0) [] =
            ap (λ k. get_or (members ++ part ∷ []) k []) l.kept ∙ get_or_append_left members (part ∷ []) [] (get_or old a 0) (omega (arith, low, lists)) in
            let P : List ℕ → Type 0 = λ l. Contains l a in subst P (sym e) (kept.listed a la))
            (each a la);
        within = λ label a has. ⊎_elim
            (λ (lt : label < length members). let P : List ℕ → Type 0 = λ l. Contains l a in kept.within label a (subst P (get_or_append_left members (part ∷ []) [] label lt) has))
            (λ (past : length members ≤ label). ⊎_elim
            (λ (here : label ≡ length members). let P : List ℕ → Type 0 = λ l. Contains l a in
            inside a (subst P (ap (λ k. get_or (members ++ part ∷ []) k []) here ∙ last_at members part []) has))
            (λ (other : label ≢ length members). let P : List ℕ → Type 0 = λ l. Contains l a in
            absurd (none_in a (subst P (past_last members part [] label (omega (arith, past, other))) has)))
            (cases_eq label (length members)))
            (cases_lt label (length members));
        marks = let e = length-set (waits ++ false ∷ []) next true in omega (arith, e, longer, long);
        queued = λ label w. ⊎_elim
            (λ (here : label ≡ next). let P : ℕ → Type 0 = Contains (queue ++ next ∷ []) in subst P (sym here) (Contains-append_right queue (next ∷ []) next (0, omega arith, refl)))
            (λ (before : Waits waits label). Contains-append_left queue (next ∷ []) label (kept.queued label before))
            (new_waits label w);
        inside = λ label has. ⊎_elim
            (λ (before : Contains queue label). let low = kept.inside label before in omega (arith, low, long))
            (λ (last : Contains (next ∷ []) label). let e = only_one next label last in omega (arith, e, next_in, long))
            (Contains-append_cases queue (next ∷ []) label has);
        room = let r = kept.room in omega (arith, r, long, count);
      }

  pub added_goes : class_count new ≡ class_count old + 1 → GoesOn n old waits queue new (set (waits ++ false ∷ []) next true) (queue ++ next ∷ [])
  added_goes count = record {
    finer = λ a b la lb e. sent_finer old part from (length sizes) new moved is fresh apart a b (omega (arith, la, kept.wide)) (omega (arith, lb, kept.wide)) e;
    settled = λ x y lx ly s. settles x y lx ly s;
    turns = let e = length-append queue (next ∷ []) in omega (arith, e, count);
  }
