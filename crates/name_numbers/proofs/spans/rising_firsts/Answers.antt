use Rattle.std.proofs.Common.{◌≡◌, ◌++◌, [], ◌∷◌, List, length, sym, ap, ◌∙◌, subst, arith, rules}
use Rattle.std.specs.Prelude.{if◌then◌else◌}
use Rattle.lk_base.proofs.Loops.{map_step}
use Rattle.lk_tables.specs.declared.heads.Symbol.{Symbol}
use Rattle.lk_tables.specs.FileView.{file_view}
use Rattle.lk_tables.specs.NameNumbers.{is_named}
use Rattle.name_numbers.specs.Spans.{StepsOver}
use Rattle.name_numbers.proofs.RisingSpans.{own_at, own_firsts, rises_next, rises_none}
use Rattle.name_numbers.proofs.spans.rising_firsts.Goals as goal

pub loop-i-init : goal.loop-i-init
loop-i-init c = record { rising = rises_none (file_view c.args.file.now).head.symbols; own = search rules }

pub loop-i-preserved : goal.loop-i-preserved
loop-i-preserved c =
    let symbols = (file_view c.args.file.now).head.symbols in
    let i = c.loop-i.i in
    let P : Symbol → Type 0 = λ s. StepsOver s c.loop-i.next c.in-Some.more in
    record {
      rising = rises_next symbols i c.loop-i.next c.in-Some.more c.loop-i.invariant.rising (subst P c.symbol-symbol.ensures c.in-Some.ensures);
      own = map_step (own_at symbols) i c.loop-i.firsts.items c.push.new.self.items c.loop-i.invariant.own
          (c.in_ok-push.ensures.items ∙ ap (λ r. c.loop-i.firsts.items ++ r ∷ []) (c.own_or_none.ensures ∙ ap (λ (s : Symbol). if is_named s then i else 0) c.symbol-symbol.ensures));
    }

pub returns : goal.returns
returns c =
    let symbols = (file_view c.args.file.now).head.symbols in
    own_firsts symbols c.loop-i.i c.loop-i.next c.loop-i.firsts.items (omega (arith, ap length c.symbols-count.ensures)) c.loop-i.invariant.rising c.loop-i.invariant.own
