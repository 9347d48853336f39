use Rattle.std.proofs.Common.{◌≡◌, ◌∙◌, ◌+◌, ◌++◌, ◌∷◌, [], ℕ, List, All, ap, refl, sym, subst, append_assoc}
use Rattle.std.proofs.lemmas.List.{append-nil}
use Rattle.lk_base.proofs.Loops.{map_step}
use Rattle.crossbeam_queue.specs.Passes.{view}
use Rattle.piped_reads.specs.Loads.{end_marks}
use Rattle.piped_reads.specs.Rule.{IsApart, hand}
use Rattle.piped_reads.specs.declared.pieces.Piece.{Piece}
use Rattle.piped_reads.specs.declared.pieces.Piece.TheVariants.{End}
use Rattle.piped_reads.specs.declared.rule.Hand.{Hand}
use Rattle.piped_reads.proofs.Taking.{ends_apart}
use Rattle.piped_reads.proofs.loader.end_parsers.Goals as goal

pub put_end-requires-clause-first : goal.put_end-requires-clause-first
put_end-requires-clause-first g c = c.loop-number.invariant.same.1 ∙ c.requires.first

pub put_end-requires-clause-fresh : goal.put_end-requires-clause-fresh
put_end-requires-clause-fresh g c =
    let P : Hand → Type 0 = λ v. All (λ piece. IsApart piece (End c.loop-number.number)) v.put in
    subst P (sym c.loop-number.invariant.marks) (ends_apart c.requires.files.0 c.loop-number.number _ c.requires.files.1)

pub loop-number-init : goal.loop-number-init
loop-number-init g c = record {
  queue = c.requires.queue;
  same = (refl, refl, refl);
  marks = ap (λ (l : List Piece). hand l (view c.args.pass.now).taken) (sym (append-nil (view c.args.pass.now).put));
}

pub loop-number-preserved : goal.loop-number-preserved
loop-number-preserved g c =
    let before = c.loop-number.invariant in
    let put : List Piece = (view c.args.pass.now).put in
    let n : ℕ = c.loop-number.number in
    let more : end_marks (n + 1) ≡ end_marks n ++ End n ∷ [] = sym (map_step End n (end_marks n) (end_marks n ++ End n ∷ []) refl refl) in
    record {
      queue = (c.put_end.ensures.queue.0 ∙ before.queue.0, c.put_end.ensures.queue.2 ∙ before.queue.1);
      same = (c.put_end.ensures.queue.0 ∙ before.same.0, c.put_end.ensures.queue.1 ∙ before.same.1, c.put_end.ensures.queue.2 ∙ before.same.2);
      marks = c.put_end.ensures.put
          ∙ ap (λ (v : Hand). hand (v.put ++ End n ∷ []) v.taken) before.marks
          ∙ ap (λ (l : List Piece). hand l (view c.args.pass.now).taken) (append_assoc put (end_marks n) (End n ∷ []) ∙ ap (λ l. put ++ l) (sym more));
    }

pub returns-clause-marks : goal.returns-clause-marks
returns-clause-marks g c = (_, c.loop-number.invariant.marks)
