use Rattle.std.proofs.Common.{ℕ, ◌<◌, ◌++◌, List, Option, map, ap, sym, ◌∙◌, subst, arith}
use Rattle.std.specs.Global.{Vec}
use Rattle.lk_tables.specs.BindingView.{binding_view}
use Rattle.lk_tables.specs.Files.{section_total}
use Rattle.lk_tables.specs.Frames.{list_view}
use Rattle.lk_tables.specs.TablesView.{files_of}
use Rattle.lk_tables.specs.declared.records.Record.{Record}
use Rattle.eh_frame.specs.Owners.{owners_in}
use Rattle.eh_frame.proofs.RecordRuns.{viewed_end, viewed_step}
use Rattle.eh_frame.proofs.owners.owners_of.Goals as goal

pub loop-number-init : goal.loop-number-init
loop-number-init c =
    let f : (ℕ × Vec Record) → List (Option ℕ) = λ list. owners_in (files_of c.args.tables.now) (binding_view c.args.binding.now) (list_view list) in
    ap (λ (l : List (Vec (Option ℕ))). map (λ (list : Vec (Option ℕ)). list.items) l ++ map f c.args.lists.now) c.in_ok-owners.ensures.items

pub list_owners-requires : goal.list_owners-requires
list_owners-requires c =
    let P : (ℕ × Vec Record) → Type 0 = λ list. list.0 < section_total (files_of c.args.tables.now) in
    subst P (sym c.index-lists-number.is) (c.requires c.loop-number.number _ (omega arith))

pub loop-number-preserved : goal.loop-number-preserved
loop-number-preserved c =
    let f : (ℕ × Vec Record) → List (Option ℕ) = λ list. owners_in (files_of c.args.tables.now) (binding_view c.args.binding.now) (list_view list) in
    viewed_step (λ (list : Vec (Option ℕ)). list.items) f c.args.lists.now c.loop-number.number _ c.loop-number.owners.items c.push.new.self.items c.in_ok-own.own _
    (omega arith) c.in_ok-push.ensures.items (c.in_ok-own.ensures ∙ ap f c.index-lists-number.is) c.loop-number.invariant

pub returns : goal.returns
returns c =
    let f : (ℕ × Vec Record) → List (Option ℕ) = λ list. owners_in (files_of c.args.tables.now) (binding_view c.args.binding.now) (list_view list) in
    viewed_end (λ (list : Vec (Option ℕ)). list.items) f c.args.lists.now c.loop-number.number c.loop-number.owners.items _ (omega arith) c.loop-number.invariant
