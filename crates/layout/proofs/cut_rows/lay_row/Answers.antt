use Rattle.std.proofs.Common.{◌≡◌, [], ◌∷◌, ◌++◌, ◌∙◌, ap, sym, subst, All, List, ◌+◌, ◌≤◌, get_or}
use Rattle.lk_base.specs.declared.abi.TheConstants.{NOBITS_MAX}
use Rattle.link_sections.specs.declared.cuts.Cut.{Cut as HeldCut}
use Rattle.link_sections.specs.CutsView.{AreCuts, cut_views}
use Rattle.link_sections.specs.SizesView.{sizes_of}
use Rattle.link_sections.proofs.CutRows.{row_view}
use Rattle.lk_tables.specs.Sites.{place_of}
use Rattle.lk_tables.specs.TablesView.{files_of}
use Rattle.layout.specs.Cutting.{short_defects}
use Rattle.layout.specs.Layout.{cuts_of}
use Rattle.layout.proofs.LaidCuts.{laid_sound}
use Rattle.layout.proofs.PlacedMembers.{held_within, no_cuts, row_cuts}
use Rattle.layout.proofs.PlainCuts.{own_fine, own_laid}
use Rattle.layout.proofs.RowsOfCuts.{sound_more, views_more}
use Rattle.layout.proofs.cut_rows.lay_row.Goals as goal

pub lay_cuts-requires-clause-cuts : goal.lay_cuts-requires-clause-cuts
lay_cuts-requires-clause-cuts c =
    subst AreCuts (sym c.cuts-own.ensures.value) (row_cuts c.args.sizes.now.rows c.args.section c.args.sizes.now.sound)

pub lay_cuts-requires-clause-within : goal.lay_cuts-requires-clause-within
lay_cuts-requires-clause-within c =
    let own = c.requires.within (sym c.leads.ensures ∙ c.if-not-leads.false) in
    let P : List HeldCut → Type 0 = λ l. All (λ h. h.at + h.whole ≤ NOBITS_MAX) l in
    subst P (sym c.cuts-own.ensures.value)
    (held_within NOBITS_MAX (get_or c.args.sizes.now.rows c.args.section [])
    (rw (row_view c.args.sizes.now.rows c.args.section) at own))

pub returns-then-not-leads-clause-sound : goal.returns-then-not-leads-clause-sound
returns-then-not-leads-clause-sound c = sound_more c.args.rows.now c.push.new.self [] c.in_ok-push.ensures.ok no_cuts

-- the cuts of a section without alignments
plain_row : (c : goal.In_ok-push-2) → cut_views c.cuts-own.result.now ≡ cuts_of c.args.leaders.now (sizes_of c.args.sizes.now) c.args.starts.now c.args.section
plain_row c =
    own_laid c.args.leaders.now (sizes_of c.args.sizes.now) c.args.starts.now c.args.section c.cuts-own.result.now (sym c.leads.ensures ∙ c.if-not-leads.false)
    (row_view c.args.sizes.now.rows c.args.section ∙ sym (ap cut_views c.cuts-own.ensures.value)) (sym c.has_alignment.ensures ∙ c.if-not-has_alignment.true)

pub returns-then-not-has_alignment-clause-goes : goal.returns-then-not-has_alignment-clause-goes
returns-then-not-has_alignment-clause-goes c =
    own_fine (place_of (files_of c.args.tables.now) c.args.section) c.cuts-own.result.now
    (cuts_of c.args.leaders.now (sizes_of c.args.sizes.now) c.args.starts.now c.args.section) (plain_row c) (sym c.has_alignment.ensures ∙ c.if-not-has_alignment.true)

pub returns-then-not-has_alignment-clause-views : goal.returns-then-not-has_alignment-clause-views
returns-then-not-has_alignment-clause-views c =
    views_more c.args.rows.now c.push-then-not-has_alignment.new.self c.cuts-own.result.now _ c.in_ok-push-2.ensures.ok (plain_row c)

pub returns-then-not-has_alignment-clause-sound : goal.returns-then-not-has_alignment-clause-sound
returns-then-not-has_alignment-clause-sound c =
    sound_more c.args.rows.now c.push-then-not-has_alignment.new.self c.cuts-own.result.now c.in_ok-push-2.ensures.ok c.cuts-own.ensures.sound

pub returns-in_ok-push-in-Ok-clause-sound : goal.returns-in_ok-push-in-Ok-clause-sound
returns-in_ok-push-in-Ok-clause-sound c =
    sound_more c.args.rows.now c.push-in-Ok.new.self c.lay_cuts.new.laid.items
    (c.in_ok-push-in-Ok.ensures.ok ∙ ap (λ l. c.args.rows.now ++ l ∷ []) c.deref-in-Ok.ensures.value)
    (laid_sound c.place_of.result _ c.cuts-own.result.now c.lay_cuts.new.laid.items c.cuts-own.ensures.sound
    c.in_ok-lay_cuts.ensures.value c.in_ok-lay_cuts.ensures.placed
    (ap (λ l. short_defects c.place_of.result (cut_views l)) (sym c.deref.ensures.value) ∙ c.in-Ok.ensures))
