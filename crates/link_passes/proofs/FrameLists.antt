-- The lists of unwind records lie in their sections, and are short.
use Rattle.std.proofs.Common.{◌≡◌, ◌-◌, ◌^◌, ◌<◌, List, length, sym, subst, arith}
use Rattle.std.specs.Prelude.{Result, Ok, Err, IfOk}
use Rattle.std.specs.List.{All}
use Rattle.std.proofs.lemmas.List.Elements.{All-weaker}
use Rattle.lk_tables.specs.Files.{File, section_total}
use Rattle.lk_tables.specs.Frames.{AreListsWithin, IsListWithin, RecordList}

-- two facts of an answer make one
pub both_of : {X E : Type 0} {P Q S : X → Type 0} (r : Result X E) → ((x : X) → P x → Q x → S x) → IfOk r P → IfOk r Q → IfOk r S
both_of (Ok x) make one two = make x one two
both_of (Err e) make one two = tt

-- lists that lie in their sections have numbers of sections, and few records
pub sections_known : (files : List File) (lists now : List RecordList) → now ≡ lists → AreListsWithin files lists → All (λ (l : RecordList). l.section < section_total files) now
sections_known files lists now are within =
    let P : List RecordList → Type 0 = λ ls. All (λ (l : RecordList). l.section < section_total files) ls in
    subst P (sym are) (All-weaker (IsListWithin files) (λ (l : RecordList). l.section < section_total files) (λ l is. is.section) lists within.within)

pub records_few : (files : List File) (lists now : List RecordList) → now ≡ lists → AreListsWithin files lists → All (λ (l : RecordList). length l.records < 2 ^ 32) now
records_few files lists now are within =
    let P : List RecordList → Type 0 = λ ls. All (λ (l : RecordList). length l.records < 2 ^ 32) ls in
    subst P (sym are) (All-weaker (IsListWithin files) (λ (l : RecordList). length l.records < 2 ^ 32) (λ l is. omega (arith, is.few)) lists within.within)
