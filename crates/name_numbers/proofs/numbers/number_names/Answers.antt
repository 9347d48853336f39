use Rattle.std.proofs.Common.{◌≡◌, length, drop, map, sym, ap, ◌∙◌, arith}
use Rattle.std.proofs.lemmas.List.{take_at, length-map}
use Rattle.lk_tables.specs.FileView.{file_view, file_views}
use Rattle.name_numbers.specs.Keys.{followed, keys, text_of_key}
use Rattle.name_numbers.proofs.Numbered.{alone_numbers, indexes_wide, indexes_within, keys_few, length_firsts_is, places_rise, places_within, table_of}
use Rattle.name_numbers.proofs.numbers.number_names.Goals as goal

pub number_cut-requires-after_bounds : goal.number_cut-requires-after_bounds
number_cut-requires-after_bounds g c κs within =
    let files = file_views c.args.files.now in
    let texts : c.of-texts.result ≡ map text_of_key (keys files) = c.of-texts.ensures ∙ c.in_ok-listed.ensures.keys.texts in
    omega (arith, c.requires.symbols, keys_few files, ap length texts, length-map (keys files) text_of_key)

pub mark_firsts-requires-clause-wide : goal.mark_firsts-requires-clause-wide
mark_firsts-requires-clause-wide g c =
    indexes_wide (file_views c.args.files.now) c.of-texts.result c.as_slice-2.result.now c.as_slice-3.result.now (c.of-texts.ensures ∙ c.in_ok-listed.ensures.keys.texts)
    (c.as_slice-2.ensures.value ∙ c.in_ok-listed.ensures.keys.symbols) (c.as_slice-3.ensures.value ∙ c.in_ok-indexes.ensures)

pub mark_firsts-requires-clause-indexes : goal.mark_firsts-requires-clause-indexes
mark_firsts-requires-clause-indexes g c k lt =
    indexes_within (file_views c.args.files.now) c.of-texts.result c.as_slice-2.result.now c.as_slice-3.result.now (c.of-texts.ensures ∙ c.in_ok-listed.ensures.keys.texts)
    (c.as_slice-2.ensures.value ∙ c.in_ok-listed.ensures.keys.symbols) (c.as_slice-3.ensures.value ∙ c.in_ok-indexes.ensures) k lt

pub mark_firsts-requires-clause-symbols : goal.mark_firsts-requires-clause-symbols
mark_firsts-requires-clause-symbols g c k lt =
    let files = file_views c.args.files.now in
    let count = ap length (c.as_mut_slice.ensures.value ∙ c.in_ok-listed.ensures.firsts) ∙ length_firsts_is files in
    omega (arith, count, places_within files c.as_slice-2.result.now (c.as_slice-2.ensures.value ∙ c.in_ok-listed.ensures.keys.symbols) k lt)

pub mark_firsts-requires-clause-rise : goal.mark_firsts-requires-clause-rise
mark_firsts-requires-clause-rise g c j k less lt =
    places_rise (file_views c.args.files.now) c.as_slice-2.result.now (c.as_slice-2.ensures.value ∙ c.in_ok-listed.ensures.keys.symbols) j k less lt

pub returns : goal.returns
returns g c =
    let files = file_views c.args.files.now in
    let old = c.in_ok-listed.listed.firsts.items in
    let ns = c.mark_firsts.new.firsts in
    let wide : length ns ≡ c.in_ok-listed.listed.firsts.len = c.mark_firsts.ensures.wide ∙ c.as_mut_slice.ensures.len in
    let read = c.as_slice-4.ensures.value ∙ take_at ns (drop (length ns) old) c.in_ok-listed.listed.firsts.len wide in
    let table =
    table_of files c.of-texts.result c.as_slice-2.result.now c.as_slice-3.result.now c.as_mut_slice.result.now ns (c.of-texts.ensures ∙ c.in_ok-listed.ensures.keys.texts)
    (c.as_slice-2.ensures.value ∙ c.in_ok-listed.ensures.keys.symbols) (c.as_slice-3.ensures.value ∙ c.in_ok-indexes.ensures) (c.as_mut_slice.ensures.value ∙ c.in_ok-listed.ensures.firsts) c.mark_firsts.ensures in
    alone_numbers files _ (length c.args.files.now) (sym (length-map c.args.files.now file_view)) c.in_ok-starts.ensures (c.in_ok-numbers.ensures ∙ ap followed read ∙ table)
