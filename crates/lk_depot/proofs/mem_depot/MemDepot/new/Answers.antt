use Rattle.std.proofs.Common.{◌≡◌, ◌++◌, ◌∷◌, [], sym, ◌∙◌, ap, arith}
use Rattle.std.proofs.lemmas.Grind.{common_steps}
use Rattle.std.proofs.lemmas.List.Elements.{All-append}
use Rattle.std.specs.FinMap.{len, len-empty}
use Rattle.std.specs.Ordering.{nat_cmp}
use Rattle.std.specs.Cmp.Lexicographic.{slice_cmp}
use Rattle.lk_depot.specs.declared.kinds.FileKind.{FileKind}
use Rattle.lk_depot.specs.Overlays.{kinds_of}
use Rattle.lk_depot.proofs.EachOf.{all_none, all_one}
use Rattle.lk_depot.proofs.mem_depot.MemDepot.new.Goals as goal

pub invariant_of-result : goal.invariant_of-result
invariant_of-result c =
    let first = c.in_ok-new.field-0 in
    let second = c.in_ok-new-2.field-0 in
    let spare : c.push-2.new.self.items ≡ (first ∷ []) ++ second ∷ [] = grind (arith, common_steps) in
    let outputs = c.in_ok-with_capacity.ensures.items in
    let none = ap (λ held. len (kinds_of held)) outputs ∙ len-empty (slice_cmp nat_cmp) FileKind in
    record {
      two = grind (arith, common_steps);
      capacity = omega (arith, c.in_ok-with_capacity.ensures.capacity);
      apart = none ∙ sym c.in_ok-with_capacity.ensures.len;
      outputs_room = rw outputs (all_none (λ held. held.room ≡ c.args.room));
      spare_room = rw spare (All-append (λ held. held.room ≡ c.args.room) (first ∷ []) (second ∷ [])
          (all_one (λ held. held.room ≡ c.args.room) first c.in_ok-new.ensures)
          (all_one (λ held. held.room ≡ c.args.room) second c.in_ok-new-2.ensures));
      some = c.requires;
    }
