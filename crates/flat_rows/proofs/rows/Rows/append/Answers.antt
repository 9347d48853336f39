use Rattle.std.proofs.Common.{◌++◌, ◌^◌, ap, ◌∙◌, arith, drop}
use Rattle.flat_rows.specs.Laid.{rows_in}
use Rattle.flat_rows.proofs.Laying.{laid_after, laid_in, moved_below, view_is_rows}
use Rattle.flat_rows.proofs.rows.Rows.append.Goals as goal

pub push_ends-requires : goal.push_ends-requires
push_ends-requires g c =
    let other = c.other.inside in
    let room = c.reserve.new.self in
    moved_below (rows_in other.firsts.items other.items.items) other.firsts.items other.items.items c.len-2.result (2 ^ 64) c.split_at.result.1.now c.other.invariant
    (omega (arith, c.len-2.ensures, c.in_ok-reserve.ensures.ok, c.len.ensures, other.items.ok.0, room.small))
    (c.split_at.ensures.back ∙ ap (drop 1) c.as_slice.ensures.value)

pub invariant_of-self-2 : goal.invariant_of-self-2
invariant_of-self-2 g c =
    let old = c.self.inside in
    let other = c.other.inside in
    let room = c.reserve.new.self in
    let rows = rows_in old.firsts.items old.items.items in
    let more = rows_in other.firsts.items other.items.items in
    laid_in (rows ++ more) c.push_ends.new.firsts.items c.extend_from_slice.new.self.items
    (laid_after rows more old.firsts.items c.push_ends.new.firsts.items other.firsts.items c.split_at.result.1.now old.items.items room.items c.extend_from_slice.new.self.items other.items.items c.len-2.result
    c.self.invariant c.other.invariant c.in_ok-reserve.ensures.items (c.len-2.ensures ∙ room.ok.0) (c.split_at.ensures.back ∙ ap (drop 1) c.as_slice.ensures.value)
    c.in_ok-push_ends.ensures.ok (c.in_ok-extend_from_slice.ensures.items ∙ ap (λ l. room.items ++ l) c.as_slice-2.ensures.value))

pub returns-clause-ok : goal.returns-clause-ok
returns-clause-ok g c =
    let old = c.self.inside in
    let other = c.other.inside in
    let room = c.reserve.new.self in
    let rows = rows_in old.firsts.items old.items.items in
    let more = rows_in other.firsts.items other.items.items in
    view_is_rows (rows ++ more) c.push_ends.new.firsts.items c.extend_from_slice.new.self.items
    (laid_after rows more old.firsts.items c.push_ends.new.firsts.items other.firsts.items c.split_at.result.1.now old.items.items room.items c.extend_from_slice.new.self.items other.items.items c.len-2.result
    c.self.invariant c.other.invariant c.in_ok-reserve.ensures.items (c.len-2.ensures ∙ room.ok.0) (c.split_at.ensures.back ∙ ap (drop 1) c.as_slice.ensures.value)
    c.in_ok-push_ends.ensures.ok (c.in_ok-extend_from_slice.ensures.items ∙ ap (λ l. room.items ++ l) c.as_slice-2.ensures.value))
    ∙ ap (λ l. l ++ more) c.self.view_is ∙ ap (λ l. c.args.self.now ++ l) c.other.view_is
