use Rattle.std.proofs.Common.{[], ◌∙◌, ap, sym, subst, All, List, ◌+◌, ◌≤◌, arith}
use Rattle.link_sections.specs.declared.cuts.Cut.{Cut as HeldCut}
use Rattle.link_sections.specs.Cuts.{new_offset}
use Rattle.link_sections.specs.CutsView.{AreCuts, cut_views}
use Rattle.link_sections.specs.SizesView.{sizes_of}
use Rattle.link_sections.proofs.CutRows.{row_view}
use Rattle.std.proofs.Math.ListN.{get_or}
use Rattle.layout.proofs.PlacedMembers.{held_within, no_length, row_cuts, size_of_section, size_plain, size_uncut}
use Rattle.layout.proofs.PlainCuts.{size_settled}
use Rattle.layout.proofs.places.size_at.Goals as goal

pub returns-in_default : goal.returns-in_default
returns-in_default c = record {
  size = size_plain (sizes_of c.args.sizes.now) c.args.start c.args.row.now c.in_default.not-Section;
  most = omega arith;
}

pub returns-then-own-eq0-clause-size : goal.returns-then-own-eq0-clause-size
returns-then-own-eq0-clause-size c =
    size_uncut (sizes_of c.args.sizes.now) c.args.start c.in-Section.section c.args.row.now c.in-Section.is
    (row_view c.args.sizes.now.rows c.in-Section.section ∙ sym (ap cut_views c.cuts-own.ensures.value) ∙ ap cut_views (no_length c.cuts-own.result.now c.if-own-eq0.true))

pub returns-then-not-has_alignment-clause-size : goal.returns-then-not-has_alignment-clause-size
returns-then-not-has_alignment-clause-size c =
    let own = row_view c.args.sizes.now.rows c.in-Section.section ∙ sym (ap cut_views c.cuts-own.ensures.value) in
    c.new_offset.ensures.value ∙ ap (λ l. new_offset (cut_views l) c.args.row.now.size) (sym c.cuts-own.ensures.value)
    ∙ size_settled (sizes_of c.args.sizes.now) c.args.start c.in-Section.section c.args.row.now c.cuts-own.result.now c.in-Section.is own
    (sym c.has_alignment.ensures ∙ c.if-not-has_alignment.true)

pub lay_cuts-requires-clause-cuts : goal.lay_cuts-requires-clause-cuts
lay_cuts-requires-clause-cuts c =
    subst AreCuts (sym c.cuts-own.ensures.value) (row_cuts c.args.sizes.now.rows c.in-Section.section c.args.sizes.now.sound)

pub lay_cuts-requires-clause-within : goal.lay_cuts-requires-clause-within
lay_cuts-requires-clause-within c =
    let own = c.requires.cuts c.in-Section.section c.in-Section.is in
    let P : List HeldCut → Type 0 = λ l. All (λ h. h.at + h.whole ≤ c.args.row.now.size) l in
    subst P (sym c.cuts-own.ensures.value)
    (held_within c.args.row.now.size (get_or c.args.sizes.now.rows c.in-Section.section [])
    (rw (row_view c.args.sizes.now.rows c.in-Section.section) at own))

pub returns-clause-size : goal.returns-clause-size
returns-clause-size c =
    c.in_ok-size.ensures.size
    ∙ size_of_section (sizes_of c.args.sizes.now) c.args.start c.in-Section.section c.args.row.now (cut_views c.cuts-own.result.now) c.in-Section.is
    (row_view c.args.sizes.now.rows c.in-Section.section ∙ sym (ap cut_views c.cuts-own.ensures.value))
