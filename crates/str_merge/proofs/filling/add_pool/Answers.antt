use Rattle.std.proofs.Common.{◌≡◌, ◌+◌, ◌<◌, ℕ, List, length, get_or, ap, sym, subst, ◌∙◌, arith}
use Rattle.std.specs.Prelude.{IfSome}
use Rattle.lk_tables.specs.TablesView.{files_of}
use Rattle.link_sections.specs.Merging.{Site}
use Rattle.str_merge.specs.Filling.{AreAnswered}
use Rattle.str_merge.specs.Pooling.{IsPoolOf}
use Rattle.str_merge.specs.Works.{members_at}
use Rattle.str_merge.proofs.AnswerSteps.{parts_answered}
use Rattle.str_merge.proofs.PoolRooms.{count_below, count_most}
use Rattle.str_merge.proofs.PoolSteps.{filled_next}
use Rattle.str_merge.proofs.WorkFacts.{count_sites, first_is, members_below, site_of}
use Rattle.str_merge.proofs.filling.add_pool.Goals as goal

pub pool_pieces-requires-clause-known : goal.pool_pieces-requires-clause-known
pool_pieces-requires-clause-known g c κs bound =
    let w = c.args.work.now in
    let members : c.as_slice-members.result.now ≡ members_at (files_of w.tables.now) w.kept.now c.args.pool =
    c.as_slice-members.ensures.value ∙ c.requires.work.members_are c.args.pool _ c.requires.pool in
    let P : List ℕ → Type 0 = λ l. IfSome c.args.known (IsPoolOf w c.args.pool l) in
    subst P (sym members) c.requires.known

pub add_parts-requires-clause-members : goal.add_parts-requires-clause-members
add_parts-requires-clause-members g c =
    let w = c.args.work.now in
    let pool = c.args.pool in
    let members : c.as_slice-members.result.now ≡ members_at (files_of w.tables.now) w.kept.now pool =
    c.as_slice-members.ensures.value ∙ c.requires.work.members_are pool _ c.requires.pool in
    members_below w pool c.as_slice-members.result.now (length c.args.filled.answers.items) c.requires.work members c.requires.filled.count

pub add_parts-requires-clause-few : goal.add_parts-requires-clause-few
add_parts-requires-clause-few g c =
    let w = c.args.work.now in
    let files = files_of w.tables.now in
    let kept = w.kept.now in
    let pool = c.args.pool in
    let members : c.as_slice-members.result.now ≡ members_at files kept pool =
    c.as_slice-members.ensures.value ∙ c.requires.work.members_are pool _ c.requires.pool in
    let rows = c.requires.filled.rows in
    let few = c.requires.work.small.sections in
    omega (arith, rows, few, count_below files kept pool, count_most files kept (pool + 1), ap length members)

pub returns : goal.returns
returns g c =
    let w = c.args.work.now in
    let files = files_of w.tables.now in
    let kept = w.kept.now in
    let pool = c.args.pool in
    let at = get_or w.firsts.now pool 0 in
    let low : at < length w.sites.now = let within = c.requires.work.firsts_within pool 0 c.requires.pool in omega (arith, within, count_sites w c.requires.work) in
    let members : c.as_slice-members.result.now ≡ members_at files kept pool =
    c.as_slice-members.ensures.value ∙ c.requires.work.members_are pool _ c.requires.pool in
    let below = members_below w pool c.as_slice-members.result.now (length c.args.filled.answers.items) c.requires.work members c.requires.filled.count in
    let P : List ℕ → Type 0 = λ l. AreAnswered w l c.args.filled c.in_ok-answered.answered in
    filled_next w pool _ c.in_ok-pooled.pooled.placed c.args.filled c.in_ok-answered.answered c.in_ok-filled.filled c.requires.work c.requires.pool c.requires.filled c.in_ok-pooled.ensures.placed
    (ap (λ (s : Site). s.section) (site_of w at c.requires.work low ∙ first_is w pool c.requires.work c.requires.pool))
    (subst P members (parts_answered w pool c.as_slice-members.result.now c.in_ok-pooled.pooled.parts c.args.filled c.in_ok-answered.answered members below c.in_ok-pooled.ensures.parts c.in_ok-answered.ensures))
    c.in_ok-filled.ensures
