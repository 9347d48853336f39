use Rattle.std.proofs.Common.{◌+◌, ◌++◌, length, flat_map, ap, ◌∙◌, arith, pos, ◌-ℤ◌}
use Rattle.lk_tables.specs.Frames.{lists_of}
use Rattle.link_sections.specs.Views.{binding_in, files_in, laid_in, leaders_in}
use Rattle.eh_frame.specs.Header.{encodings, row_bytes, word}
use Rattle.eh_frame.proofs.TableRows.{no_table, table_is}
use Rattle.eh_frame.proofs.header.header_bytes.Goals as goal

pub returns-then-fdes-eq0 : goal.returns-then-fdes-eq0
returns-then-fdes-eq0 g c =
    c.new.ensures.items
    ∙ no_table (files_in c.args.view.now) (binding_in c.args.view.now) (leaders_in c.args.view.now) (laid_in c.args.view.now) (lists_of c.args.frames.now) c.args.starts.header c.args.starts.frames
    c.args.fdes.now c.if-fdes-eq0.true

pub returns : goal.returns
returns g c =
    let head = encodings ++ (word (pos c.args.starts.frames -ℤ pos (c.args.starts.header + 4)) ++ word (pos (length c.args.fdes.now))) in
    table_is (files_in c.args.view.now) (binding_in c.args.view.now) (leaders_in c.args.view.now) (laid_in c.args.view.now) (lists_of c.args.frames.now) c.args.starts.header c.args.starts.frames
    c.args.fdes.now c.push_head.new.out.items c.push_rows.new.out.items (omega arith)
    (c.in_ok-push_head.ensures ∙ ap (λ l. l ++ head) c.in_ok-out.ensures.items)
    (c.in_ok-push_rows.ensures ∙ ap (λ l. c.push_head.new.out.items ++ flat_map row_bytes l) (c.as_slice.ensures.value ∙ c.in_ok-rows.ensures))
