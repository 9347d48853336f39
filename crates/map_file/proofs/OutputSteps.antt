-- Output sections one after the other, whose members stand in two lists.
use Rattle.std.proofs.Common.{◌≡◌, ℕ, suc, ◌+◌, ◌<◌, ◌≤◌, Bool, true, false, cond, List, [], ◌∷◌, ◌++◌, append_assoc, append-nil, drop, get_or, length, map, take, refl, sym, ap, ◌∙◌, arith}
use Rattle.std.specs.Prelude.{flat_map}
use Rattle.std.specs.List.{range_with_len}
use Rattle.std.proofs.Math.Seq.{drop-cons}
use Rattle.std.proofs.Math.ListN.{drop_of_length-le}
use Rattle.lk_tables.specs.Files.{section_total}
use Rattle.link_sections.specs.declared.layouts.OutputSection.{OutputSection as HeldSection}
use Rattle.link_sections.specs.declared.members.Member.{Member}
use Rattle.link_sections.specs.declared.views.View.{View}
use Rattle.link_sections.specs.LaidOut.{OutputSection, output_view}
use Rattle.link_sections.specs.Views.{files_in}
use Rattle.map_file.specs.Folded.{block_text, own_folded}
use Rattle.map_file.specs.MapText as text
use Rattle.map_file.specs.MapView.{folded_line, folded_text, member_line, output_block, output_blocks}
use Rattle.map_file.proofs.FoldedSteps.{lines_are}

-- its members, and those of the output sections after it
abbrev pub own_members : OutputSection → (bits nobits_members : List Member) → List Member
own_members o bits nobits_members = cond (text.is_nobits o.class) (take o.count nobits_members) (take o.count bits)

abbrev pub bits_left : OutputSection → List Member → List Member
bits_left o bits = cond (text.is_nobits o.class) bits (drop o.count bits)

abbrev pub nobits_left : OutputSection → List Member → List Member
nobits_left o nobits_members = cond (text.is_nobits o.class) (drop o.count nobits_members) nobits_members

blocks_by : (view : View) (number : ℕ) (o : OutputSection) (os : List OutputSection) (bits nobits_members : List Member) (nobits : Bool) →
    cond nobits (output_block view number o (take o.count nobits_members) ++ output_blocks view (number + 1) os bits (drop o.count nobits_members))
    (output_block view number o (take o.count bits) ++ output_blocks view (number + 1) os (drop o.count bits) nobits_members)
    ≡ output_block view number o (cond nobits (take o.count nobits_members) (take o.count bits))
    ++ output_blocks view (number + 1) os (cond nobits bits (drop o.count bits)) (cond nobits (drop o.count nobits_members) nobits_members)
blocks_by view number o os bits nobits_members true = refl
blocks_by view number o os bits nobits_members false = refl

blocks_are : (view : View) (number : ℕ) (o : OutputSection) (os : List OutputSection) (bits nobits_members : List Member) →
    output_blocks view number (o ∷ os) bits nobits_members
    ≡ output_block view number o (own_members o bits nobits_members) ++ output_blocks view (number + 1) os (bits_left o bits) (nobits_left o nobits_members)
unfolding text.output_blocks
blocks_are view number o os bits nobits_members = blocks_by view number o os bits nobits_members (text.is_nobits o.class)

-- one output section more
pub block_added : (view : View) (list : List HeldSection) (d : HeldSection) (i : ℕ) (bits nobits_members new_bits new_nobits members : List Member) (sections before now whole : List ℕ) → i < length list →
    before ++ output_blocks view (i + 1) (map output_view (drop i list)) bits nobits_members ≡ whole →
    members ≡ own_members (output_view (get_or list i d)) bits nobits_members →
    new_bits ≡ bits_left (output_view (get_or list i d)) bits →
    new_nobits ≡ nobits_left (output_view (get_or list i d)) nobits_members →
    sections ≡ flat_map (own_folded view (i + 1)) (range_with_len 0 (section_total (files_in view))) →
    now ≡ before ++ block_text view (output_view (get_or list i d)) members sections →
    now ++ output_blocks view (i + 1 + 1) (map output_view (drop (i + 1) list)) new_bits new_nobits ≡ whole
unfolding text.output_block
block_added view list d i bits nobits_members new_bits new_nobits members sections before now whole lt held own more_bits more_nobits folded added =
    let o = output_view (get_or list i d) in
    let os : List HeldSection = drop (i + 1) list in
    let one : suc i ≡ i + 1 = omega arith in
    let next : drop i list ≡ get_or list i d ∷ os = drop-cons list i d lt ∙ ap (λ k. get_or list i d ∷ drop k list) one in
    let shown : flat_map (folded_text view) sections ≡ flat_map (folded_line view (i + 1)) (range_with_len 0 (section_total (files_in view))) =
    ap (flat_map (folded_text view)) folded ∙ lines_are view (i + 1) (range_with_len 0 (section_total (files_in view))) in
    let block : block_text view o members sections ≡ output_block view (i + 1) o (own_members o bits nobits_members) =
    ap (λ ms. block_text view o ms sections) own ∙ ap (λ l. text.output_line o ++ (flat_map (member_line view) (own_members o bits nobits_members) ++ l)) shown in
    let after = output_blocks view (i + 1 + 1) (map output_view os) in
    ap (λ bs. now ++ after bs new_nobits) more_bits ∙ ap (λ zs. now ++ after (bits_left o bits) zs) more_nobits
    ∙ ap (λ l. l ++ after (bits_left o bits) (nobits_left o nobits_members)) (added ∙ ap (λ l. before ++ l) block)
    ∙ append_assoc before (output_block view (i + 1) o (own_members o bits nobits_members)) (after (bits_left o bits) (nobits_left o nobits_members))
    ∙ ap (λ l. before ++ l) (sym (blocks_are view (i + 1) o (map output_view os) bits nobits_members))
    ∙ ap (λ (l : List HeldSection). before ++ output_blocks view (i + 1) (map output_view l) bits nobits_members) (sym next)
    ∙ held

pub blocks_end : (view : View) (list : List HeldSection) (i : ℕ) (bits nobits_members : List Member) (now whole : List ℕ) → length list ≤ i →
    now ++ output_blocks view (i + 1) (map output_view (drop i list)) bits nobits_members ≡ whole → now ≡ whole
unfolding text.output_blocks
blocks_end view list i bits nobits_members now whole past held =
    let none : drop i list ≡ [] = drop_of_length-le list past in
    sym (append-nil now) ∙ ap (λ (os : List HeldSection). now ++ output_blocks view (i + 1) (map output_view os) bits nobits_members) (sym none) ∙ held
