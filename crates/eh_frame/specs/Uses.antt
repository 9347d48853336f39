-- What the walk over the records of a link keeps: the FDEs that are written so far, and the CIEs that these use.
use Rattle.std.specs.Prelude.{◌≡◌, ℕ, ◌<◌, Bool, Option, Some, None, unwrap_or, if◌then◌else◌, List, [], ◌∷◌, ◌++◌, length, map, slice_index_or}
use Rattle.std.specs.Global.{Vec}
use Rattle.std.specs.List.{All}
use Rattle.std.specs.Str.{bytes_eq}
use Rattle.lk_tables.specs.declared.records.FrameNo.{FrameNo}
use Rattle.lk_tables.specs.declared.records.Record.{Record}
use Rattle.lk_tables.specs.Binding.{Bindings}
use Rattle.lk_tables.specs.Files.{File}
use Rattle.lk_tables.specs.Frames.{RecordList, frame_no, frames_where, no_record, owner_at, owner_in}
use Rattle.lk_tables.specs.Records.{RecordView}
use Rattle.lk_tables.specs.RecordViews.{record_views}
use Rattle.link_sections.specs.PoolViews.{Merged}
use Rattle.eh_frame.specs.declared.planning.Firsts.{Firsts}
use Rattle.eh_frame.specs.declared.planning.Uses.{Uses}
use Rattle.eh_frame.specs.Plan.{CieKey, IsFit, cie_text, first_cies, is_owner_in_place, key_of, use_of, with_cie}

abbrev pub list_in : (section : ℕ) → List Record → RecordList
list_in section records = record { section = section; records = record_views records }

-- a text that is held has these bytes
abbrev pub has_text : List ℕ → Vec ℕ → Bool
has_text text held = bytes_eq text held.items

abbrev pub texts_of : List (Vec ℕ) → List (List ℕ)
texts_of held = map (λ (text : Vec ℕ). text.items) held

-- what a list says of its records: `key` is what each CIE says, `cie_of` the CIE of each FDE
pub record Tells (files : List File) (b : Bindings) (merged : List (Option Merged)) (key : FrameNo → CieKey) (cie_of : FrameNo → FrameNo) (l : RecordList) : Type 0 where
  pub keys : (k : ℕ) → key (frame_no l.section k) ≡ key_of files b merged l.section (slice_index_or l.records k no_record)
  pub cies : (k : ℕ) → cie_of (frame_no l.section k) ≡ frame_no l.section (unwrap_or (slice_index_or l.records k no_record).cie 0)

-- these CIEs are held, each with its text
pub record AreHeld (key : FrameNo → CieKey) (cies : List FrameNo) (firsts : Firsts) : Type 0 where
  pub cies_are : firsts.cies.items ≡ cies
  pub texts_are : texts_of firsts.texts.keys ≡ map (λ (number : FrameNo). cie_text (key number)) cies
  pub fit : All (λ (number : FrameNo). IsFit (key number)) cies

-- which of these CIEs says the same as one
pub record IsUse (key : FrameNo → CieKey) (cies : List FrameNo) (cie : FrameNo) (n : ℕ) : Type 0 where
  pub is : use_of key cies cie ≡ n
  pub within : n < length cies

-- numbers that are known of the CIEs of a section
abbrev pub AreKnown : (key : FrameNo → CieKey) → (cies : List FrameNo) → (section : ℕ) → (known : List (Option ℕ)) → Type 0
AreKnown key cies section known = (k n : ℕ) → slice_index_or known k None ≡ Some n → IsUse key cies (frame_no section k) n

-- the CIEs of these FDEs, of those that say the same the first
abbrev pub cies_for : (key : FrameNo → CieKey) → (cie_of : FrameNo → FrameNo) → (fdes : List FrameNo) → List FrameNo
cies_for key cie_of fdes = first_cies key [] (map cie_of fdes)

-- these FDEs were found
pub record AreUses (key : FrameNo → CieKey) (cie_of : FrameNo → FrameNo) (fdes : List FrameNo) (found : Uses) : Type 0 where
  pub fdes_are : found.fdes.items ≡ fdes
  pub uses_are : found.uses.items ≡ map (λ (fde : FrameNo). use_of key (cies_for key cie_of fdes) (cie_of fde)) fdes
  pub held : AreHeld key (cies_for key cie_of fdes) found.firsts

-- these FDEs were found, and these numbers are known of the CIEs of a section
pub record AreUsesIn (key : FrameNo → CieKey) (cie_of : FrameNo → FrameNo) (fdes : List FrameNo) (section : ℕ) (known : List (Option ℕ)) (found : Uses) : Type 0 where
  pub uses : AreUses key cie_of fdes found
  pub are_known : AreKnown key (cies_for key cie_of fdes) section known

pub record AreNone (found : Uses) : Type 0 where
  pub fdes : found.fdes.items ≡ []
  pub uses : found.uses.items ≡ []
  pub cies : found.firsts.cies.items ≡ []
  pub texts : found.firsts.texts.keys ≡ []

-- a CIE got its number
pub record IsNumbered (key : FrameNo → CieKey) (cies : List FrameNo) (section cie n : ℕ) (known : List (Option ℕ)) (firsts : Firsts) : Type 0 where
  pub use_is : IsUse key (with_cie key cies (frame_no section cie)) (frame_no section cie) n
  pub held : AreHeld key (with_cie key cies (frame_no section cie)) firsts
  pub are_known : AreKnown key (with_cie key cies (frame_no section cie)) section known

-- the record, if it is an FDE that is written
abbrev pub one_frame : List File → Bindings → List (Option Merged) → (leaders : List (Option ℕ)) → RecordList → (at : ℕ) → List FrameNo
one_frame files b merged leaders l at = if is_owner_in_place leaders merged (owner_at files b l at) then frame_no l.section at ∷ [] else []

module _ (files : List File) (b : Bindings) (merged : List (Option Merged)) where
  abbrev pub Numbers : RecordList → (cie n : ℕ) → (known known' : List (Option ℕ)) → (firsts firsts' : Firsts) → Type 0
  Numbers l cie n known known' firsts firsts' =
      (key : FrameNo → CieKey) (cie_of : FrameNo → FrameNo) (cies : List FrameNo) → Tells files b merged key cie_of l → AreHeld key cies firsts →
      AreKnown key cies l.section known → IsNumbered key cies l.section cie n known' firsts'

  abbrev pub AddsRecord : (leaders : List (Option ℕ)) → RecordList → (at : ℕ) → (known known' : List (Option ℕ)) → (found found' : Uses) → Type 0
  AddsRecord leaders l at known known' found found' =
      (key : FrameNo → CieKey) (cie_of : FrameNo → FrameNo) (fdes : List FrameNo) → Tells files b merged key cie_of l →
      AreUsesIn key cie_of fdes l.section known found → AreUsesIn key cie_of (fdes ++ one_frame files b merged leaders l at) l.section known' found'

  abbrev pub AddsList : (leaders : List (Option ℕ)) → RecordList → (found found' : Uses) → Type 0
  AddsList leaders l found found' =
      (key : FrameNo → CieKey) (cie_of : FrameNo → FrameNo) (fdes : List FrameNo) → Tells files b merged key cie_of l →
      AreUses key cie_of fdes found → AreUses key cie_of (fdes ++ frames_where files b (is_owner_in_place leaders merged) l) found'

-- the CIE of a record of file f, if that is an FDE that is written
abbrev pub used_cie : List File → Bindings → List (Option Merged) → (leaders : List (Option ℕ)) → (f : ℕ) → RecordView → Option ℕ
used_cie files b merged leaders f r = if is_owner_in_place leaders merged (owner_in files b f r) then r.cie else None
