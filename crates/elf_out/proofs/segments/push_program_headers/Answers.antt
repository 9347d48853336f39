use Rattle.std.proofs.Common.{◌+◌, ◌++◌, ◌∷◌, [], ◌∙◌, ap, flat_map}
use Rattle.std.specs.Prelude.{if◌then◌else◌}
use Rattle.lk_base.specs.declared.abi.TheConstants.{IMAGE_BASE, PF_R, PF_W, PF_X}
use Rattle.elf_fields.specs.Headers.{program_header}
use Rattle.elf_out.specs.Headers.{frame_segment, loaded, program_headers, stack_segment, tls_segment}
use Rattle.elf_out.proofs.Appends.{six}
use Rattle.elf_out.proofs.segments.push_program_headers.Goals as goal

pub returns : goal.returns
unfolding program_headers
returns c =
    let b = c.args.bounds.now in
    six c.args.out.now.items c.push_program_header.new.out.items c.push_if.new.out.items c.push_if-2.new.out.items
    c.push_if-3.new.out.items c.push_if-4.new.out.items c.push_program_header-2.new.out.items (loaded PF_R IMAGE_BASE b.r_end b.r_end) stack_segment
    (if b.has_rx then loaded (PF_R + PF_X) b.rx_start b.rx_end b.rx_end ∷ [] else [])
    (if b.has_rw then loaded (PF_R + PF_W) b.rw_start b.bits_end b.nobits_end ∷ [] else [])
    (if b.has_tls then tls_segment b ∷ [] else [])
    (if b.has_frames then frame_segment b ∷ [] else [])
    (c.in_ok-push_program_header.ensures ∙ ap (λ h. c.args.out.now.items ++ program_header h) c.loaded-first.ensures)
    (c.in_ok-push_if.ensures ∙ ap (λ h. c.push_program_header.new.out.items ++ flat_map program_header (if b.has_rx then h ∷ [] else [])) c.loaded-executed.ensures)
    (c.in_ok-push_if-2.ensures ∙ ap (λ h. c.push_if.new.out.items ++ flat_map program_header (if b.has_rw then h ∷ [] else [])) c.loaded-written.ensures)
    (c.in_ok-push_if-3.ensures ∙ ap (λ h. c.push_if-2.new.out.items ++ flat_map program_header (if b.has_tls then h ∷ [] else [])) c.thread_local.ensures)
    (c.in_ok-push_if-4.ensures ∙ ap (λ h. c.push_if-3.new.out.items ++ flat_map program_header (if b.has_frames then h ∷ [] else [])) c.frame_table.ensures)
    c.in_ok-push_program_header-2.ensures
