use Rattle.std.proofs.Common.{◌≡◌, ℕ, ◌<◌, Vec, Global, List, All, map, length, sym, ap, ◌∙◌, subst, arith}
use Rattle.std.proofs.lemmas.List.{take_all, length-map}
use Rattle.std.proofs.lemmas.List.Elements.{All-map}
use Rattle.link_sections.proofs.edges.Edges.of.Goals as goal

abbrev own : Vec ℕ Global → List ℕ
own list = list.items

within : (lists : List (Vec ℕ Global)) (rows : List (List ℕ)) → rows ≡ map own lists →
    All (λ (list : Vec ℕ Global). All (λ end. end < length lists) list.items) lists → All (All (λ end. end < length rows)) rows
within lists rows is held =
    let P : ℕ → Type 0 = λ n. All (All (λ end. end < n)) (map own lists) in
    let Q : List (List ℕ) → Type 0 = λ l. All (All (λ end. end < length l)) l in
    subst Q (sym is) (subst P (sym (length-map lists own)) (All-map (All (λ end. end < length lists)) own lists held))

pub invariant_of-result : goal.invariant_of-result
invariant_of-result c =
    let lists = c.args.lists.items in
    let ok = c.args.lists.ok in
    let whole : c.loop-n.rows ≡ map own lists = c.loop-n.invariant ∙ ap (map own) (take_all c.loop-n.n lists (omega (arith, ok.0, c.len-n-end.ensures, c.loop-n-test.false))) in
    record {
      within = within lists c.loop-n.rows whole c.requires.within;
      few = omega (arith, c.requires.few, ap length whole, length-map lists own);
    }
