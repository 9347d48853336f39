use Rattle.std.proofs.Common.{ℕ, ◌<◌, ◌^◌, ◌∙◌, List, ap, arith, length, refl, subst}
use Rattle.std.specs.List.{All}
use Rattle.lk_tables.specs.BindingView.{binding_view}
use Rattle.lk_tables.specs.RecordViews.{record_view}
use Rattle.lk_tables.specs.TablesView.{files_of}
use Rattle.link_sections.specs.PoolViews.{merged_views}
use Rattle.eh_frame.specs.Plan.{key_of}
use Rattle.eh_frame.proofs.CieTexts.{text_from}
use Rattle.eh_frame.proofs.cies.cie_text.Goals as goal

pub returns : goal.returns
unfolding key_of
returns c =
    let key = key_of (files_of c.args.tables.now) (binding_view c.args.binding.now) (merged_views c.args.pools.now) c.args.section (record_view c.args.cie.now) in
    let P : List ℕ → Type 0 = All (λ w. w < 2 ^ 64) in
    let words = c.as_slice.ensures.value ∙ c.in_ok-words.ensures in
    let bytes = c.record_bytes-bytes.ensures in
    record {
      text_is = text_from key c.record_bytes-bytes.result.now c.as_slice.result.now _ _ _ _ (length c.record_bytes-bytes.result.now) c.new-text.ensures.items c.in_ok-push_word.ensures c.in_ok-extend_from_slice.ensures.items
          c.in_ok-push_words.ensures.bytes refl bytes words;
      fit = record { len = omega (arith, ap length bytes); words = subst P words c.in_ok-push_words.ensures.fit };
    }
