use Rattle.std.proofs.Common.{◌≡◌, ◌+◌, ◌<◌, ◌++◌, ◌∷◌, [], ℕ, length, get_or, ap, sym, subst, ◌∙◌, arith, inl, inr}
use Rattle.std.specs.List.{All}
use Rattle.std.proofs.lemmas.Bool.{cases_lt}
use Rattle.std.proofs.lemmas.List.{get_or_default}
use Rattle.lk_base.proofs.Loops.{collect_end, collect_step}
use Rattle.relax.specs.declared.calls.Call.{Call}
use Rattle.relax.specs.Bands.{first_size, jump_no, open_if, open_row, size_row}
use Rattle.relax.specs.CallSizes.{all_calls}
use Rattle.relax.specs.Points.{IsLowJump, jump_of}
use Rattle.relax.proofs.PointSteps.{IsWithin, calls_within}
use Rattle.relax.proofs.bands.bands_in.Goals as goal
use Rattle.relax.proofs.bands.bands_in.Goals.{After-jump_of-jump}

abbrev zero_call : Call
zero_call = record { from = 0; offset = 0; reloc = 0; to = 0; target = 0; least = 0 }

abbrev no_one : Call
no_one = record { from = 0; offset = 0; reloc = 0; to = 0; target = 0; least = 4 }

pub bounds-calls-k : goal.bounds-calls-k
bounds-calls-k c = omega (arith, c.loop-k-test.true, c.requires.within, ap length c.items-calls.ensures)

pub jump_of-jump-requires-clause-from : goal.jump_of-jump-requires-clause-from
jump_of-jump-requires-clause-from c =
    let ms = c.args.members.now in
    let all = subst (All (IsWithin (length ms))) (sym c.items-calls.ensures) (calls_within ms c.args.rows.now c.requires.sound) in
    (all c.loop-k.k _ (omega (arith, c.loop-k-test.true, c.requires.within, ap length c.items-calls.ensures))).from

pub jump_of-jump-requires-clause-to : goal.jump_of-jump-requires-clause-to
jump_of-jump-requires-clause-to c =
    let ms = c.args.members.now in
    let all = subst (All (IsWithin (length ms))) (sym c.items-calls.ensures) (calls_within ms c.args.rows.now c.requires.sound) in
    (all c.loop-k.k _ (omega (arith, c.loop-k-test.true, c.requires.within, ap length c.items-calls.ensures))).to

same : (c : After-jump_of-jump) → c.loop-k.k < length (all_calls c.args.rows.now) → c.jump_of-jump.result ≡ jump_no c.args.members.now c.args.rows.now c.loop-k.k
same c lt =
    let ms = c.args.members.now in
    let rows = c.args.rows.now in
    let k = c.loop-k.k in
    c.jump_of-jump.ensures.value ∙ ap (λ l. jump_of ms rows (get_or l k zero_call)) c.items-calls.ensures ∙ ap (jump_of ms rows) (get_or_default (all_calls rows) k zero_call no_one lt)

pub loop-k-preserved : goal.loop-k-preserved
loop-k-preserved c =
    let p = (goal.at.loop-k-preserved c).After-jump_of-jump in
    let ms = c.args.members.now in
    let rows = c.args.rows.now in
    let k = c.loop-k.k in
    let lt = c.loop-k-test.true in
    let is = same p (omega (arith, lt, c.requires.within)) in
    record {
      sizes = collect_step (size_row ms rows) k c.args.piece.end c.loop-k.sizes.items c.push.new.self.items _ lt c.loop-k.invariant.sizes
          (c.in_ok-push.ensures.items ∙ ap (λ n. c.loop-k.sizes.items ++ n ∷ []) (c.first_size.ensures ∙ ap first_size is));
      opens = collect_step (open_row ms rows) k c.args.piece.end c.loop-k.opens.items c.push_open.new.opens.items _ lt c.loop-k.invariant.opens
          (c.in_ok-push_open.ensures ∙ ap (λ j. c.loop-k.opens.items ++ open_if k j) is);
      low = λ m less. elim (cases_lt (c.args.piece.start + m) k) [
        | inl before ↦ c.loop-k.invariant.low m before
        | inr after ↦
            let e : k ≡ c.args.piece.start + m = omega (arith, less, after) in
            subst (λ n. IsLowJump (jump_no ms rows n)) e (subst IsLowJump is c.jump_of-jump.ensures.low)
      ];
    }

pub returns : goal.returns
returns c =
    let ms = c.args.members.now in
    let rows = c.args.rows.now in
    let past = c.loop-k-test.false in
    record {
      sizes = collect_end (size_row ms rows) c.loop-k.k c.args.piece.end c.loop-k.sizes.items _ (omega (arith, past)) c.loop-k.invariant.sizes;
      opens = collect_end (open_row ms rows) c.loop-k.k c.args.piece.end c.loop-k.opens.items _ (omega (arith, past)) c.loop-k.invariant.opens;
      low = λ m less. c.loop-k.invariant.low m (omega (arith, past, less));
    }
