use Rattle.std.proofs.Common.{◌≡◌, ◌∙◌, ◌++◌, ◌∷◌, [], ap, sym, inr, arith}
use Rattle.std.proofs.lemmas.Grind.{common_steps}
use Rattle.piped_reads.specs.Loads.{took_of}
use Rattle.piped_reads.specs.declared.pieces.Piece.TheVariants.{Loaded}
use Rattle.piped_reads.proofs.results.add.Goals as goal

pub returns-else-is_err : goal.returns-else-is_err
returns-else-is_err c =
    let pushed : c.push.new.self.items ≡ c.args.results.now.took.items ++ took_of c.in-Loaded.index c.in-Ok.file ∷ [] =
    grind (arith, common_steps, c.push.ensures.items, c.is_err.ensures.value, c.if-is_err.false) in
    inr (
      took_of c.in-Loaded.index c.in-Ok.file,
      record {
        of = ap (Loaded c.in-Loaded.index) c.in-Ok.ensures.bytes ∙ sym c.in-Loaded.is;
        read = c.in-Ok.ensures.read;
        who = c.in-Ok.ensures.by;
      },
      pushed,
    )
