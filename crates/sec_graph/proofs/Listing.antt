-- Lists one after the other, and where each starts: one list more.
use Rattle.std.proofs.Common.{◌≡◌, ℕ, ◌+◌, ◌-◌, ◌≤◌, inl, inr, List, [], ◌∷◌, ◌++◌, length, take, get_or, slice_index, refl, sym, ap, ◌∙◌, arith}
use Rattle.std.proofs.Math.Seq.{take-append-le, take_all}
use Rattle.std.proofs.lemmas.Bool.{cases_lt}
use Rattle.std.proofs.lemmas.List.{append-nil, get_or_append_left, get_or-append_right, length-append}
use Rattle.lk_tables.specs.declared.objects.Reloc.{Reloc}
use Rattle.lk_tables.specs.declared.uppers.Uppers.{Uppers}
use Rattle.lk_tables.specs.Uppers.{AreListed, joined}

abbrev start : {X : Type 0} → List (List X) → ℕ → ℕ
start lists n = length (joined (take n lists))

joined_more : {X : Type 0} (lists : List (List X)) (new : List X) → joined (lists ++ new ∷ []) ≡ joined lists ++ new
joined_more [] new = append-nil new
joined_more (l ∷ ls) new = ap (λ xs. l ++ xs) (joined_more ls new) ∙ sym (append_all l (joined ls) new)
  where
    append_all : {X : Type 0} (a b c : List X) → (a ++ b) ++ c ≡ a ++ (b ++ c)
    append_all [] b c = refl
    append_all (x ∷ a) b c = ap (λ l. x ∷ l) (append_all a b c)

-- one list more
first_more : (lists : List (List Reloc)) (new : List Reloc) (u : Uppers) (end n : ℕ) → AreListed lists u → end ≡ length (joined (lists ++ new ∷ [])) →
    n ≤ length (lists ++ new ∷ []) → slice_index (u.firsts.items ++ end ∷ []) n ≡ start (lists ++ new ∷ []) n
first_more lists new u end n listed is le = elim (cases_lt n (length lists + 1)) [
  | inl lt ↦
      get_or_append_left u.firsts.items (end ∷ []) 0 n (omega (arith, lt, listed.count)) ∙ listed.firsts n (omega (arith, lt))
      ∙ ap (λ l. length (joined l)) (sym (take-append-le n lists (new ∷ []) (omega (arith, lt))))
  | inr past ↦
      let long = length-append lists (new ∷ []) in
      let zero_is : n - (length lists + 1) ≡ 0 = omega (arith, le, long, past) in
      get_or-append_right u.firsts.items (end ∷ []) (length lists + 1) n 0 listed.count past
      ∙ ap (λ k. get_or (end ∷ []) k 0) zero_is ∙ is
      ∙ ap (λ l. length (joined l)) (sym (take_all n (lists ++ new ∷ []) (omega (arith, le, long, past))))
]

pub listed_more : (lists : List (List Reloc)) (new : List Reloc) (u v : Uppers) → AreListed lists u → v.list.items ≡ u.list.items ++ new →
    v.firsts.items ≡ u.firsts.items ++ length v.list.items ∷ [] → AreListed (lists ++ new ∷ []) v
listed_more lists new u v listed list_is firsts_are =
    let all = list_is ∙ ap (λ l. l ++ new) listed.all ∙ sym (joined_more lists new) in
    record {
      all = all;
      count = omega (arith, ap length firsts_are ∙ length-append u.firsts.items (length v.list.items ∷ []), listed.count, length-append lists (new ∷ []));
      firsts = λ n le. ap (λ l. slice_index l n) firsts_are ∙ first_more lists new u (length v.list.items) n listed (ap length all) le;
    }
