use Rattle.std.proofs.Common.{◌+◌, Bool, ap, sym, ◌∙◌, arith, rules}
use Rattle.std.specs.Prelude.{if◌then◌else◌}
use Rattle.lk_base.proofs.Ranges.{row_step}
use Rattle.lk_tables.specs.Files.{section_count}
use Rattle.lk_tables.specs.TablesView.{files_of}
use Rattle.lk_tables.proofs.FirstNumbers.{section_within}
use Rattle.str_merge.specs.Spreading.{answer_in, sites_upto}
use Rattle.str_merge.proofs.SiteRows.{upto_most}
use Rattle.str_merge.proofs.SpreadSteps.{answer_is, upto_all, upto_more, upto_none}
use Rattle.str_merge.proofs.spreading.spread_file.Goals as goal

pub loop-index-init : goal.loop-index-init
loop-index-init c = record { list = search rules; next = c.requires.start ∙ sym (upto_none (files_of c.args.tables.now) c.args.kept.now c.args.file) }

pub overflow_cast-index : goal.overflow_cast-index
overflow_cast-index c =
    omega (
      arith,
      c.section_count-index-end.ensures,
      ap section_count c.file.ensures,
      c.prove_few.ensures.section_count_is,
      section_within (files_of c.args.tables.now) c.args.file c.requires.file,
    )

pub after-next-requires : goal.after-next-requires
after-next-requires c =
    let files = files_of c.args.tables.now in
    let next = c.loop-index.invariant.next in
    omega (
      arith,
      next,
      upto_most files c.args.kept.now c.args.file c.loop-index.index c.requires.file,
      c.section_count-index-end.ensures,
      ap section_count c.file.ensures,
      c.prove_few.ensures.section_count_is,
      section_within files c.args.file c.requires.file,
    )

pub loop-index-preserved : goal.loop-index-preserved
loop-index-preserved c =
    let files = files_of c.args.tables.now in
    let kept = c.args.kept.now in
    let f = c.args.file in
    let k = c.loop-index.index in
    record {
      list = row_step (answer_in files kept c.args.answers.now f) k c.args.list.now.items c.loop-index.list.items c.push.new.self.items c.answer.result
          c.loop-index.invariant.list c.in_ok-push.ensures.items
          (c.answer.ensures ∙ answer_is files kept c.args.answers.now f k c.loop-index.next c.is_merge-merges.result c.is_merge-merges.ensures c.loop-index.invariant.next);
      next = c.after-next.ensures ∙ ap (λ n. n + (if c.is_merge-merges.result then 1 else 0)) c.loop-index.invariant.next
          ∙ ap (λ (b : Bool). sites_upto files kept f k + (if b then 1 else 0)) c.is_merge-merges.ensures ∙ sym (upto_more files kept f k);
    }

pub returns-clause-next : goal.returns-clause-next
returns-clause-next c =
    c.loop-index.invariant.next
    ∙ upto_all (files_of c.args.tables.now) c.args.kept.now c.args.file c.loop-index.index (omega (arith, c.section_count-index-end.ensures, ap section_count c.file.ensures))
