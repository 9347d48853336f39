-- A link without files, for the tests.
use Rattle.std.proofs.Common.{◌≡◌, ℕ, ◌+◌, ◌<◌, ◌≤◌, ◌^◌, true, false, List, [], length, refl, ap, sym, ◌∙◌, arith, slice_index}
use Rattle.std.specs.List.{All}
use Rattle.std.proofs.lemmas.Bool.{and_parts}
use Rattle.lk_base.specs.declared.abi.TheConstants.{EHDR_SIZE, IMAGE_BASE}
use Rattle.lk_tables.specs.Binding.{Bindings, bound_rank, least_rank, offered_bindings, offers}
use Rattle.lk_tables.specs.BoundNames.{bindings, or_linker, with_linker}
use Rattle.lk_tables.specs.Files.{File, by_symbol, file_at, section_no}
use Rattle.lk_tables.specs.LinkerSymbols.{bound_no, fixed_no, fixed_symbols, identifier_after, is_c_identifier, linker_no, start_prefix, stop_prefix}
use Rattle.lk_tables.specs.Ranks.{no_rank}
use Rattle.link_sections.specs.declared.pools.Pools.{Pools}
use Rattle.link_sections.specs.GotEntries.{word_count}
use Rattle.link_sections.specs.LaidOut.{LaidOut, OutputPlace, no_pools}
use Rattle.link_sections.specs.Leaders.{is_kept}
use Rattle.link_sections.specs.MergeSections.{is_mergeable}
use Rattle.link_sections.specs.Merging.{is_merge}
use Rattle.link_sections.proofs.OwnLeaders.{kept_below}
use Rattle.str_merge.specs.Small.{AreWritten}
use Rattle.link_sections.specs.PoolViews.{PoolsView, merged_views, piece_rows, pool_views, pools_view}
use Rattle.link_sections.specs.Sound.{IsSound}

-- nothing is bound
pub none_bound : record { discarded = []; ranks = []; entry = no_rank; commons = [] } ≡ bindings [] [] []
unfolding bindings with_linker offered_bindings or_linker by_symbol bound_rank least_rank offers linker_no bound_no fixed_no fixed_symbols identifier_after is_c_identifier start_prefix stop_prefix
none_bound = refl

-- nothing is merged
pub none_pooled : (files : List File) (pools : Pools) → pools.pools.items ≡ [] → merged_views pools ≡ [] → pools_view files pools ≡ no_pools
unfolding pools_view
none_pooled files pools none same =
    ap (λ ps. record { pools = pool_views files ps (piece_rows pools); merged = merged_views pools }) none
    ∙ ap (λ ms. record { pools = []; merged = ms }) same

-- where nothing is kept, nothing is merged
pub none_written : (files : List File) → AreWritten files []
unfolding is_merge
none_written files = λ f k lt low is.
    let n = section_no files f k in
    let on = (and_parts (is_kept [] n) (is_mergeable (file_at files f) k) is).0 in
    let below = kept_below [] n on in
    absurd (omega (arith, below))

-- nothing is laid out
pub record IsBare (laid : LaidOut) : Type 0 where
  pub outputs : laid.outputs ≡ []
  pub members : laid.members ≡ []
  pub starts : laid.starts ≡ []
  pub pools : laid.pools ≡ []
  pub cuts : laid.cuts ≡ []
  pub merging : laid.merging ≡ no_pools
  pub table : laid.table ≡ []
  pub got : laid.got + 2 ^ 40 < 2 ^ 64
  pub headers : IMAGE_BASE + EHDR_SIZE ≤ laid.bounds.file_end
  pub small : laid.bounds.file_end < IMAGE_BASE + 2 ^ 31
  pub pointer : laid.bounds.tls_bits_end + 2 ^ 31 < 2 ^ 64
  pub places : All (λ (p : OutputPlace). p.start + 2 ^ 31 < 2 ^ 64) laid.places
  pub has_frames : laid.bounds.has_frames ≡ false
  pub frame_header : laid.bounds.frame_header ≡ IMAGE_BASE
  pub frame_header_end : laid.bounds.frame_header_end ≡ IMAGE_BASE
  pub frames : laid.bounds.frames ≡ IMAGE_BASE
  pub frames_end : laid.bounds.frames_end ≡ IMAGE_BASE

start_none : (xs : List ℕ) (n room : ℕ) → xs ≡ [] → room < 2 ^ 64 → slice_index xs n + room < 2 ^ 64
start_none xs n room none low =
    let is : slice_index xs n ≡ 0 = ap (λ (ys : List ℕ). slice_index ys n) none in
    omega (arith, is, low)

pub bare_sound : (b : Bindings) (laid : LaidOut) → IsBare laid → IsSound [] b [] laid
unfolding word_count
bare_sound b laid bare =
    let words : word_count laid.table ≡ 0 = ap word_count bare.table in
    let count : length laid.merging.pools ≡ 0 = ap (λ (m : PoolsView). length m.pools) bare.merging in
    let members : length laid.members ≡ 0 = ap length bare.members in
    let cuts : length laid.cuts ≡ 0 = ap length bare.cuts in
    let outputs : length laid.outputs ≡ 0 = ap length bare.outputs in
    record {
      sections = λ k d lt. absurd (omega (arith, lt, members));
      listed = λ n lt. absurd (omega (arith, lt));
      pools = λ k d lt. absurd (omega (arith, lt, members));
      pools_listed = λ p lt. absurd (omega (arith, lt, count));
      table = λ k d lt. absurd (omega (arith, lt, members));
      table_listed = λ some. absurd (omega (arith, some, words));
      low = λ k d lt. absurd (omega (arith, lt, members));
      above = λ k d lt. absurd (omega (arith, lt, members));
      inside = λ k d lt. absurd (omega (arith, lt, members));
      order = λ i d lt. absurd (omega (arith, lt, members));
      headers = bare.headers;
      small = bare.small;
      few = omega (arith, outputs);
      room = λ n. start_none laid.starts n (2 ^ 33) bare.starts (omega arith);
      pool_room = λ p. start_none laid.pools p (2 ^ 62) bare.pools (omega arith);
      table_room = bare.got;
      pointer_room = bare.pointer;
      place_room = bare.places;
      apart = λ k d lt. absurd (omega (arith, lt, cuts));
      frames = record {
        from = omega (arith, bare.frame_header);
        header = omega (arith, bare.frame_header, bare.frame_header_end);
        between = omega (arith, bare.frame_header_end, bare.frames);
        frames = omega (arith, bare.frames, bare.frames_end);
        inside = omega (arith, bare.frames_end, bare.headers);
        above = λ has. let wrong : false ≡ true = sym bare.has_frames ∙ has in cc;
        none = λ has. bare.frames_end;
        apart = λ k d lt. absurd (omega (arith, lt, members));
      };
    }
