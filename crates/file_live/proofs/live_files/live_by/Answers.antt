use Rattle.std.proofs.Common.{◌≡◌, ◌<◌, ℕ, Bool, List, Vec, Global, length, sym, ap, ◌∙◌, subst, arith}
use Rattle.std.proofs.lemmas.List.{length-map}
use Rattle.std.proofs.lemmas.Result.{IfOk-weaker}
use Rattle.claim_core.specs.declared.events.Event.{Event}
use Rattle.claim_core.specs.Events.{none_of, after, AllInRow}
use Rattle.lk_tables.specs.FileView.{file_view, file_views}
use Rattle.lk_tables.specs.Files.{symbol_total}
use Rattle.lk_tables.specs.Reach.{IsReach}
use Rattle.name_numbers.proofs.NameWords.{words_count}
use Rattle.file_live.specs.Claims.{claims}
use Rattle.file_live.specs.Live.{IsLive, live_of}
use Rattle.file_live.specs.Pulls.{ends, first_files, lists_of}
use Rattle.file_live.proofs.Claimed.{claims_in_row}
use Rattle.file_live.proofs.TakePart.{live_marked, live_is}
use Rattle.file_live.proofs.live_files.live_by.Goals as goal

pub overflow_cast-words : goal.overflow_cast-words
overflow_cast-words g c =
    let ok = c.args.names.now.numbers.ok in
    omega (arith, c.len-words.ensures, c.requires.symbols, words_count (file_views c.args.files.now) c.args.names.now c.requires.names)

pub least_offers-requires-clause-row : goal.least_offers-requires-clause-row
least_offers-requires-clause-row g c κs within =
    let files = file_views c.args.files.now in
    let ok = c.args.names.now.numbers.ok in
    let count : symbol_total files ≡ c.len-words.result = omega (arith, c.len-words.ensures, words_count files c.args.names.now c.requires.names) in
    let P : List Event → Type 0 = AllInRow c.len-words.result in
    let Q : ℕ → Type 0 = λ n. AllInRow n (claims files) in
    subst P (sym (c.as_slice.ensures.value ∙ c.in_ok-claims.ensures)) (subst Q count (claims_in_row files))

pub reach-requires-clause-row : goal.reach-requires-clause-row
reach-requires-clause-row g c =
    let files = file_views c.args.files.now in
    let ok = c.args.names.now.numbers.ok in
    let count : symbol_total files ≡ c.len-words.result = omega (arith, c.len-words.ensures, words_count files c.args.names.now c.requires.names) in
    c.as_slice-2.ensures.value ∙ c.in_ok-row.ensures.alone ∙ ap (after (none_of c.len-words.result)) (c.as_slice.ensures.value ∙ c.in_ok-claims.ensures)
    ∙ sym (ap (λ n. after (none_of n) (claims files)) count)

pub returns-clause-live : goal.returns-clause-live
returns-clause-live g c =
    let undefined = lists_of c.args.undefined.now in
    let files = file_views c.args.files.now in
    let few : length files < 16777216 = omega (arith, c.requires.files, length-map c.args.files.now file_view) in
    let A : Vec Bool Global → Type 0 = λ v. IsReach (first_files undefined files) (ends files) v.items in
    let B : Vec Bool Global → Type 0 = λ v. v.items ≡ live_of undefined files in
    IfOk-weaker c.reach.result A B (λ v r. live_is undefined files v.items few c.requires.symbols (live_marked undefined files v.items r)) c.reach.ensures

pub returns-clause-least : goal.returns-clause-least
returns-clause-least g c =
    let undefined = lists_of c.args.undefined.now in
    let files = file_views c.args.files.now in
    let A : Vec Bool Global → Type 0 = λ v. IsReach (first_files undefined files) (ends files) v.items in
    let B : Vec Bool Global → Type 0 = λ v. IsLive undefined files v.items in
    IfOk-weaker c.reach.result A B (λ v r. live_marked undefined files v.items r) c.reach.ensures
