-- The rows of a class: one item more.
use Rattle.std.proofs.Common.{◌≡◌, ℕ, ◌+◌, ◌<◌, List, [], ◌∷◌, ◌++◌, true, false, if◌then◌else◌, refl, ap, sym, ◌∙◌, get_or, length}
use Rattle.std.specs.Prelude.{unwrap_or}
use Rattle.std.specs.List.{list_any}
use Rattle.std.proofs.lemmas.Bool.{or_parts}
use Rattle.lk_tables.specs.declared.classes.Class.{Class}
use Rattle.lk_tables.specs.Classes.{is_in, output_rank}
use Rattle.lk_tables.specs.OutputNames.{output_name}
use Rattle.output_sections.specs.declared.heads.Head.{Head}
use Rattle.output_sections.specs.declared.heads.Last.{Last}
use Rattle.output_sections.specs.declared.items.Item.{Item as HeldItem}
use Rattle.output_sections.specs.declared.rows.Row.{Row}
use Rattle.output_sections.specs.Heads.{ByName, IsHeads, IsLast, IsPushed, head_in, last_row, seen}
use Rattle.output_sections.specs.Items.{Item}
use Rattle.output_sections.specs.ItemViews.{item_view, items_view}
use Rattle.output_sections.specs.Order.{is_of, no_head, own_row, row_in, rows_from, rows_of}
use Rattle.output_sections.proofs.HeadSteps.{IsRest, rest_next}

-- an item of another class has no row
pub own_none : (class : Class) (heads : List ℕ → Head) (number : ℕ) (item : Item) → is_of class item ≡ false → [] ≡ own_row class heads number item
unfolding own_row
own_none class heads number item other = rw other refl

-- the row of an item, by what is known of its output section
row_last : (class : Class) (heads : ByName) (last : Last) (number : ℕ) (item : Item) → IsLast class heads last → last.name.now ≡ output_name item.name
    → last_row last number item ≡ row_in class (unwrap_or last.head no_head) number item
unfolding last_row row_in
row_last class heads last number item is own =
    let rank : last.rank ≡ output_rank class (unwrap_or last.head no_head).sh_type (output_name item.name) =
    is.rank ∙ ap (output_rank class (unwrap_or last.head no_head).sh_type) own in
    rw rank refl

pub last_pushed : (class : Class) (heads : ByName) (last : Last) (number : ℕ) (item : Item) (old new : List Row) → is_of class item ≡ true → IsLast class heads last
    → last.name.now ≡ output_name item.name → new ≡ old ++ last_row last number item ∷ [] → IsPushed class number item heads old new
unfolding own_row
last_pushed class heads last number item old new here is own more =
    let there : unwrap_or last.head no_head ≡ head_in heads (output_name item.name) = ap (λ o. unwrap_or o no_head) (is.head ∙ ap (seen heads) own) in
    more ∙ ap (λ row. old ++ row ∷ []) (row_last class heads last number item is own ∙ ap (λ k. row_in class k number item) there)
    ∙ ap (λ b. old ++ (if b then row_in class (head_in heads (output_name item.name)) number item ∷ [] else [])) (sym here)

-- the walk over the items of a class, once all are noted
pub record IsReading (class : Class) (i : ℕ) (items : List HeldItem) (heads : ByName) (last : Last) (rows : List Row) : Type 0 where
  pub held : IsLast class heads last
  pub rest : IsRest class i items rows

pub reading_first : (class : Class) (items : List HeldItem) (heads : ByName) (last : Last) (rows : List Row) → IsLast class heads last → rows ≡ [] → IsReading class 0 items heads last rows
reading_first class items heads last rows is none = record { held = is; rest = ap (λ l. l ++ rows_of class (items_view items)) none }

pub reading_next : (class : Class) (i : ℕ) (items : List HeldItem) (d : HeldItem) (heads : ByName) (last last' : Last) (old new : List Row) → i < length items → IsHeads class (items_view items) heads
    → IsPushed class i (item_view (get_or items i d)) heads old new → IsLast class heads last' → IsReading class i items heads last old → IsReading class (i + 1) items heads last' new
reading_next class i items d heads last last' old new lt are more is held = record { held = is; rest = rest_next class i items d heads old new lt are more held.rest }

-- a class without an item has no row
pub no_rows : (class : Class) (heads : List ℕ → Head) (number : ℕ) (items : List HeldItem)
    → list_any (λ (item : HeldItem). is_in class item.sh_type item.flags) items ≡ false → rows_from class heads number (items_view items) ≡ []
no_rows class heads number [] none = refl
no_rows class heads number (item ∷ items) none =
    let parts = or_parts (is_in class item.sh_type item.flags) (list_any (λ (x : HeldItem). is_in class x.sh_type x.flags) items) none in
    ap (λ row. row ++ rows_from class heads (number + 1) (items_view items)) (sym (own_none class heads number (item_view item) parts.0))
    ∙ no_rows class heads (number + 1) items parts.1
