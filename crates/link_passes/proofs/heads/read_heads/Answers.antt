use Rattle.std.proofs.Common.{◌≡◌, ◌≤◌, ◌∙◌, ℕ, Ok, [], ap, sym, subst, arith, length, map, flat_map, min}
use Rattle.std.specs.List.{range_with_len}
use Rattle.std.proofs.lemmas.List.{length-map}
use Rattle.lk_base.specs.Defects.{count_defects}
use Rattle.lk_base.specs.Firsts.{BeginsWith}
use Rattle.lk_tables.specs.Files.{symbol_total}
use Rattle.lk_tables.specs.TablesView.{heads_of}
use Rattle.work_split.specs.Shares.{EachFrom}
use Rattle.work_split.proofs.Sharing.{each_rises, whole_goes}
use Rattle.link_passes.specs.Contents.{source_view, sources_of}
use Rattle.link_passes.specs.Defects.{head_defects_at, reading_defects}
use Rattle.link_passes.specs.Reading.{IsHeadAt}
use Rattle.link_passes.specs.Sources.{headed, heads_in}
use Rattle.link_passes.proofs.Totals.{all_none, first_of_second, first_of_third, within_limit}
use Rattle.link_passes.proofs.heads.read_heads.Goals as goal

pub gather-requires-clause-count : goal.gather-requires-clause-count
gather-requires-clause-count g c =
    let ss = sources_of c.args.sources.now in
    let long : length c.in_ok-list.list.items ≡ c.min-count.result = omega (arith, each_rises (IsHeadAt ss) 0 c.min-count.result c.in_ok-list.list.items c.in_ok-list.ensures.each) in
    omega (arith, long, c.min-count.ensures)

pub gather-requires-clause-few : goal.gather-requires-clause-few
gather-requires-clause-few g c =
    let ss = sources_of c.args.sources.now in
    let long : length c.in_ok-list.list.items ≡ c.min-count.result = omega (arith, each_rises (IsHeadAt ss) 0 c.min-count.result c.in_ok-list.list.items c.in_ok-list.ensures.each) in
    let within = c.requires.limits.files in
    omega (arith, long, c.min-count.ensures, within)

pub gather-requires-clause-each : goal.gather-requires-clause-each
gather-requires-clause-each g c =
    let ss = sources_of c.args.sources.now in
    let long : length c.in_ok-list.list.items ≡ c.min-count.result = omega (arith, each_rises (IsHeadAt ss) 0 c.min-count.result c.in_ok-list.list.items c.in_ok-list.ensures.each) in
    let P : ℕ → Type 0 = λ k. EachFrom (IsHeadAt ss) 0 k c.in_ok-list.list.items in
    subst P (sym long) c.in_ok-list.ensures.each

pub returns-in-Err-clause-goes : goal.returns-in-Err-clause-goes
unfolding reading_defects
returns-in-Err-clause-goes g c =
    let ss = sources_of c.args.sources.now in
    let n : length ss ≡ length c.args.sources.now = length-map c.args.sources.now source_view in
    let count : min (length ss) c.args.limits.now.files ≡ c.min-count.result = ap (λ m. min m c.args.limits.now.files) n ∙ sym c.min-count.ensures in
    let goes : flat_map (head_defects_at ss) (range_with_len 0 (min (length ss) c.args.limits.now.files)) ≡ [] =
    ap (λ m. flat_map (head_defects_at ss) (range_with_len 0 m)) count
    ∙ whole_goes (head_defects_at ss) (IsHeadAt ss) c.min-count.result (Ok c.in_ok-list.list) c.in_ok-list.ensures in
    let P : ℕ → Type 0 = λ m. BeginsWith (count_defects c.args.limits.now.files m) c.in-Err.defect in
    first_of_second _ (count_defects c.args.limits.now.files (length ss)) _ c.in-Err.defect goes (subst P (sym n) c.in-Err.ensures)

pub returns-in-Err-check_count-clause-goes : goal.returns-in-Err-check_count-clause-goes
unfolding reading_defects heads_in
returns-in-Err-check_count-clause-goes g c =
    let ss = sources_of c.args.sources.now in
    let n : length ss ≡ length c.args.sources.now = length-map c.args.sources.now source_view in
    let count : min (length ss) c.args.limits.now.files ≡ c.min-count.result = ap (λ m. min m c.args.limits.now.files) n ∙ sym c.min-count.ensures in
    let goes : flat_map (head_defects_at ss) (range_with_len 0 (min (length ss) c.args.limits.now.files)) ≡ [] =
    ap (λ m. flat_map (head_defects_at ss) (range_with_len 0 m)) count
    ∙ whole_goes (head_defects_at ss) (IsHeadAt ss) c.min-count.result (Ok c.in_ok-list.list) c.in_ok-list.ensures in
    let few : length c.args.sources.now ≤ c.args.limits.now.files = within_limit _ _ c.in_default.ensures in
    let long : length c.in_ok-list.list.items ≡ c.min-count.result = omega (arith, each_rises (IsHeadAt ss) 0 c.min-count.result c.in_ok-list.list.items c.in_ok-list.ensures.each) in
    let all : length c.in_ok-list.list.items ≡ length ss = omega (arith, long, c.min-count.ensures, few, n) in
    let heads : heads_of c.in_ok-heads.heads ≡ heads_in ss = c.in_ok-heads.ensures.heads ∙ ap (λ m. map (headed ss) (range_with_len 0 m)) all in
    let total : c.count_symbols.result ≡ symbol_total (heads_in ss) =
    c.count_symbols.ensures ∙ ap symbol_total (c.files.ensures ∙ heads) in
    let P : ℕ → Type 0 = λ m. BeginsWith (count_defects c.args.limits.now.symbols m) c.in-Err-check_count.defect in
    first_of_third _ (count_defects c.args.limits.now.files (length ss)) (count_defects c.args.limits.now.symbols (symbol_total (heads_in ss))) c.in-Err-check_count.defect goes
    (ap (count_defects c.args.limits.now.files) n ∙ c.in_default.ensures) (subst P total c.in-Err-check_count.ensures)

pub returns-clause-goes : goal.returns-clause-goes
unfolding reading_defects heads_in
returns-clause-goes g c =
    let ss = sources_of c.args.sources.now in
    let n : length ss ≡ length c.args.sources.now = length-map c.args.sources.now source_view in
    let count : min (length ss) c.args.limits.now.files ≡ c.min-count.result = ap (λ m. min m c.args.limits.now.files) n ∙ sym c.min-count.ensures in
    let goes : flat_map (head_defects_at ss) (range_with_len 0 (min (length ss) c.args.limits.now.files)) ≡ [] =
    ap (λ m. flat_map (head_defects_at ss) (range_with_len 0 m)) count
    ∙ whole_goes (head_defects_at ss) (IsHeadAt ss) c.min-count.result (Ok c.in_ok-list.list) c.in_ok-list.ensures in
    let few : length c.args.sources.now ≤ c.args.limits.now.files = within_limit _ _ c.in_default.ensures in
    let long : length c.in_ok-list.list.items ≡ c.min-count.result = omega (arith, each_rises (IsHeadAt ss) 0 c.min-count.result c.in_ok-list.list.items c.in_ok-list.ensures.each) in
    let all : length c.in_ok-list.list.items ≡ length ss = omega (arith, long, c.min-count.ensures, few, n) in
    let heads : heads_of c.in_ok-heads.heads ≡ heads_in ss = c.in_ok-heads.ensures.heads ∙ ap (λ m. map (headed ss) (range_with_len 0 m)) all in
    let total : c.count_symbols.result ≡ symbol_total (heads_in ss) =
    c.count_symbols.ensures ∙ ap symbol_total (c.files.ensures ∙ heads) in
    all_none _ (count_defects c.args.limits.now.files (length ss)) (count_defects c.args.limits.now.symbols (symbol_total (heads_in ss))) goes
    (ap (count_defects c.args.limits.now.files) n ∙ c.in_default.ensures)
    (ap (count_defects c.args.limits.now.symbols) (sym total) ∙ c.in_default-check_count.ensures)

pub returns-clause-heads : goal.returns-clause-heads
unfolding heads_in
returns-clause-heads g c =
    let ss = sources_of c.args.sources.now in
    let n : length ss ≡ length c.args.sources.now = length-map c.args.sources.now source_view in
    let few : length c.args.sources.now ≤ c.args.limits.now.files = within_limit _ _ c.in_default.ensures in
    let long : length c.in_ok-list.list.items ≡ c.min-count.result = omega (arith, each_rises (IsHeadAt ss) 0 c.min-count.result c.in_ok-list.list.items c.in_ok-list.ensures.each) in
    let all : length c.in_ok-list.list.items ≡ length ss = omega (arith, long, c.min-count.ensures, few, n) in
    c.in_ok-heads.ensures.heads ∙ ap (λ m. map (headed ss) (range_with_len 0 m)) all
