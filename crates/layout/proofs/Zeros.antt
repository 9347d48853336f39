-- The members without bytes in the file stand one after the other in their classes.
use Rattle.std.proofs.Common.{ℕ, ◌+◌, ◌≤◌, List, [], ◌++◌, All, append-nil, arith}
use Rattle.lk_base.specs.declared.abi.TheConstants.{ALIGN_MAX}
use Rattle.link_sections.specs.declared.layouts.Bounds.{Bounds}
use Rattle.link_sections.specs.declared.members.Member.{Member}
use Rattle.link_sections.specs.Cuts.{Cut}
use Rattle.lk_tables.specs.declared.classes.Class.TheVariants.{TlsNobits, RwNobits}
use Rattle.output_sections.specs.declared.rows.Row.{Row}
use Rattle.layout.specs.declared.walk.Cursor.{Cursor}
use Rattle.layout.specs.Layout.{FrameSizes, after_tls_bits}
use Rattle.output_sections.specs.Order.{Orders, rows_in}
use Rattle.layout.specs.Spots.{AreInOrder}
use Rattle.layout.specs.Walk.{cursor_at, end_along, members_along, runs}
use Rattle.layout.proofs.Chain.{AreBounds}
use Rattle.layout.proofs.Cursors.{RowFits}
use Rattle.layout.proofs.Members.{both_along, order_along}
use Rattle.layout.proofs.Rising.{AllFit, class_moves}
use Rattle.layout.proofs.Runs.{each_run}

-- in order, and before the end of their class
pub record AreBetween (from to : ℕ) (ms : List Member) : Type 0 where
  pub order : AreInOrder from ms
  pub end : All (λ m. m.start + m.size ≤ to) ms

class_between : (sizes : List (List Cut)) (from to : ℕ) (c : Cursor) (rows : List Row) → c.extra ≤ ALIGN_MAX → from ≤ c.at → (end_along sizes c (runs rows)).at ≤ to
    → All (RowFits sizes) rows → AreBetween from to (members_along sizes c (runs rows))
class_between sizes from to c rows extra least most fit =
    let fits = each_run (RowFits sizes) rows fit in
    let within = (both_along sizes from to c (runs rows) extra least most fits).1 in
    let chain : AreInOrder from (members_along sizes c (runs rows) ++ []) = order_along sizes from c (runs rows) [] least fits (λ f follows. tt) in
    record { order = rw (append-nil (members_along sizes c (runs rows))) at chain; end = λ k d lt. (within k d lt).last }

pub threads_between : (sizes : List (List Cut)) (o : Orders) (fs : FrameSizes) (b : Bounds) → AllFit sizes o → AreBounds sizes o fs b
    → AreBetween b.tls_bits_end b.tls_end (members_along sizes (after_tls_bits sizes o b.rw_start b.tls_align) (runs (rows_in o TlsNobits)))
threads_between sizes o fs b fit is =
    class_between sizes b.tls_bits_end b.tls_end (after_tls_bits sizes o b.rw_start b.tls_align) (rows_in o TlsNobits) (class_moves sizes o fs b fit is).tls_bits.extra
    (omega (arith, is.tls_bits_end)) (omega (arith, is.tls_end)) (fit TlsNobits)

pub others_between : (sizes : List (List Cut)) (o : Orders) (fs : FrameSizes) (b : Bounds) → AllFit sizes o → AreBounds sizes o fs b
    → AreBetween b.bits_end b.nobits_end (members_along sizes (cursor_at b.bits_end) (runs (rows_in o RwNobits)))
others_between sizes o fs b fit is =
    class_between sizes b.bits_end b.nobits_end (cursor_at b.bits_end) (rows_in o RwNobits) (omega arith) (omega arith) (omega (arith, is.nobits_end)) (fit RwNobits)
