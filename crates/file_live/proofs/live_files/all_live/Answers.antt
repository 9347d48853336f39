use Rattle.std.proofs.Common.{◌≡◌, ◌<◌, ◌∙◌, Bool, List, true, length, replicate, sym, subst, ap, arith, rules}
use Rattle.std.proofs.lemmas.List.{length-map}
use Rattle.lk_tables.specs.FileView.{file_view, file_views}
use Rattle.file_live.specs.Live.{IsLive}
use Rattle.file_live.specs.Pulls.{lists_of}
use Rattle.file_live.proofs.TakePart.{all_commands, live_is}
use Rattle.file_live.proofs.live_files.all_live.Goals as goal

pub returns-clause-live : goal.returns-clause-live
returns-clause-live c =
    let undefined = lists_of c.args.undefined.now in
    let files = file_views c.args.files.now in
    let wide = length-map c.args.files.now file_view in
    let few : length files < 16777216 = omega (arith, c.requires.files, wide) in
    let all : c.in_ok-all.all.items ≡ replicate (length c.args.files.now) true = search rules in
    let P : List Bool → Type 0 = λ l. IsLive undefined files l in
    let is : IsLive undefined files c.in_ok-all.all.items =
    subst P (ap (λ n. replicate n true) wide ∙ sym all) (all_commands undefined files few c.requires.symbols (λ f lt. c.requires.own f (omega (arith, lt, wide)))) in
    live_is undefined files c.in_ok-all.all.items few c.requires.symbols is

pub returns-clause-least : goal.returns-clause-least
returns-clause-least c =
    let undefined = lists_of c.args.undefined.now in
    let files = file_views c.args.files.now in
    let wide = length-map c.args.files.now file_view in
    let few : length files < 16777216 = omega (arith, c.requires.files, wide) in
    let all : c.in_ok-all.all.items ≡ replicate (length c.args.files.now) true = search rules in
    let P : List Bool → Type 0 = λ l. IsLive undefined files l in
    subst P (ap (λ n. replicate n true) wide ∙ sym all) (all_commands undefined files few c.requires.symbols (λ f lt. c.requires.own f (omega (arith, lt, wide))))
