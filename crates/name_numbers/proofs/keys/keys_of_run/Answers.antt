use Rattle.std.proofs.Common.{◌≡◌, ℕ, ◌<◌, length, subst, arith}
use Rattle.lk_tables.specs.FileView.{file_views}
use Rattle.name_numbers.specs.Columns.{HasKeys}
use Rattle.name_numbers.proofs.Columns.{listed_next, listed_none}
use Rattle.name_numbers.proofs.Keyed.{file_few, firsts_read, keys_read, length_starts}
use Rattle.name_numbers.proofs.keys.keys_of_run.Goals as goal

pub bounds-starts-run : goal.bounds-starts-run
bounds-starts-run c = let within = c.requires.within in omega (arith, within, length_starts c.args.files.now c.args.starts.now c.requires.starts)

pub bounds-starts-run-2 : goal.bounds-starts-run-2
bounds-starts-run-2 c =
    let within = c.requires.within in
    let ordered = c.requires.ordered in
    omega (arith, within, ordered, length_starts c.args.files.now c.args.starts.now c.requires.starts)

pub bounds-files-f : goal.bounds-files-f
bounds-files-f c = let within = c.requires.within in omega (arith, within, c.loop-f-test.true)

pub bounds-starts-f : goal.bounds-starts-f
bounds-starts-f c = let within = c.requires.within in omega (arith, within, c.loop-f-test.true, length_starts c.args.files.now c.args.starts.now c.requires.starts)

pub loop-f-init : goal.loop-f-init
loop-f-init c = (listed_none (file_views c.args.files.now) c.args.run.start c.in_ok-listed.listed c.in_ok-listed.ensures, omega arith)

pub push_file-requires : goal.push_file-requires
push_file-requires c =
    let within = c.requires.within in
    let lt : c.loop-f.f < length c.args.files.now = omega (arith, within, c.loop-f-test.true) in
    omega (arith, file_few c.args.files.now c.args.starts.now c.requires.starts c.loop-f.f c.index-files-f.result lt c.index-files-f.is c.requires.symbols)

pub loop-f-preserved : goal.loop-f-preserved
loop-f-preserved c =
    let lent = c.args.files.now in
    let starts = c.args.starts.now in
    let f = c.loop-f.f in
    let low = c.loop-f.invariant.1 in
    let within = c.requires.within in
    let lt : f < length lent = omega (arith, within, c.loop-f-test.true) in (
      listed_next (file_views lent) c.args.run.start f _ _ c.loop-f.listed c.push_file.new.listed low (keys_read lent starts c.requires.starts f c.index-files-f.result lt c.index-files-f.is)
          (firsts_read lent starts c.requires.starts f c.index-files-f.result lt c.index-files-f.is) c.in_ok-push_file.ensures.keys c.in_ok-push_file.ensures.firsts c.loop-f.invariant.0,
      omega (arith, low),
    )

pub returns : goal.returns
returns c =
    let low = c.loop-f.invariant.1 in
    let all : c.loop-f.f ≡ c.args.run.end = omega (arith, low) in
    let P : ℕ → Type 0 = λ n. HasKeys (file_views c.args.files.now) c.args.run.start n c.loop-f.listed in
    subst P all c.loop-f.invariant.0
