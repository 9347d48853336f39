-- Where the output sections of a layout stand, within its bounds.
use Rattle.std.specs.Prelude.{◌≡◌, ℕ, ◌+◌, ◌*◌, ◌%◌, ◌^◌, ◌<◌, ◌≤◌, nat_lt, IsTrue, Bool, true, false, not, Option, List, [], ◌∷◌, ◌++◌, filter, length, slice_index, slice_index_or, All}
use Rattle.lk_base.specs.declared.abi.TheConstants.{EHDR_SIZE, IMAGE_BASE, PHDR_SIZE}
use Rattle.lk_tables.specs.Binding.{Bindings}
use Rattle.lk_tables.specs.Files.{File, section_total}
use Rattle.lk_tables.specs.declared.classes.Class.{Class}
use Rattle.lk_tables.specs.declared.classes.Class.TheVariants.{R, Rx, TlsBits, TlsNobits, RwBits, RwNobits}
use Rattle.link_sections.specs.declared.layouts.Bounds.{Bounds}
use Rattle.link_sections.specs.declared.members.Content.TheVariants.{Section}
use Rattle.link_sections.specs.declared.members.Member.{Member}
use Rattle.link_sections.specs.declared.pools.Pool.{Pool}
use Rattle.link_sections.specs.InputSections.{input_at}
use Rattle.link_sections.specs.LaidOut.{LaidOut, OutputSection, start_at}
use Rattle.link_sections.specs.Leaders.{leads}
use Rattle.layout.specs.Layout.{FrameSizes, count_of}

-- the bounds in order: the classes one after the other, where RW bits starts with thread-local nobits; and the file and the image, which
-- end where a class does
pub record AreRising (b : Bounds) : Type 0 where
  pub first : IMAGE_BASE + (EHDR_SIZE + 2 * PHDR_SIZE) ≤ b.headers_end
  pub r : b.headers_end ≤ b.r_end
  pub rx_rounded : b.r_end ≤ b.rx_start
  pub rx : b.rx_start ≤ b.rx_end
  pub rw_rounded : b.rx_end ≤ b.rw_start
  pub tls_bits : b.rw_start ≤ b.tls_bits_end
  pub tls_nobits : b.tls_bits_end ≤ b.tls_end
  pub bits : b.tls_bits_end ≤ b.bits_end
  pub nobits : b.bits_end ≤ b.nobits_end
  pub file_least : b.r_end ≤ b.file_end
  pub file_most : b.file_end ≤ b.bits_end
  pub image_least : b.file_end ≤ b.image_end
  pub image_most : b.image_end ≤ b.nobits_end
  pub room : b.nobits_end + 2 ^ 31 < 2 ^ 63
  pub tls_room : b.tls_end + 2 ^ 31 < 2 ^ 63

-- the headers, and the segments that have bytes: each ends within the file, and with its nobits members within the image; the
-- thread-local one starts at a multiple of its alignment
pub record HaveSegments (b : Bounds) : Type 0 where
  pub headers : b.headers ≡ 2 + count_of b.has_rx + count_of b.has_rw + count_of b.has_tls + count_of b.has_frames
  pub headers_end : b.headers_end ≡ IMAGE_BASE + (EHDR_SIZE + PHDR_SIZE * b.headers)
  pub rx : IsTrue b.has_rx → b.rx_end ≤ b.file_end
  pub tls_bits : IsTrue b.has_tls_bits → (b.tls_start ≤ b.tls_bits_end) × (b.tls_bits_end ≤ b.file_end)
  pub tls : IsTrue b.has_tls → (b.rw_start ≤ b.tls_start) × ((b.tls_start ≤ b.tls_end) × (b.tls_start % b.tls_align ≡ 0))
  pub bits : b.tls_bits_end < b.bits_end → b.bits_end ≤ b.file_end
  pub rw : IsTrue b.has_rw → b.nobits_end ≤ b.image_end

-- `.eh_frame_hdr` and `.eh_frame` have their bytes, and stand at multiples of 4 and of 8
pub record HasFrames (fs : FrameSizes) (b : Bounds) : Type 0 where
  pub has : b.has_frames ≡ nat_lt 0 fs.header
  pub header : b.frame_header_end ≡ b.frame_header + fs.header
  pub frame : b.has_frames ≡ true → b.frames_end ≡ b.frames + fs.frame
  pub none : b.has_frames ≡ false → b.frames_end ≡ b.frames
  pub header_aligned : b.frame_header % 4 ≡ 0
  pub frames_aligned : b.frames % 8 ≡ 0

-- the cursors before and after a class, and the end of the file or of the image, in which its bytes lie; those of thread-local nobits lie
-- in none, since RW bits starts again where they start
abbrev pub class_start : Class → Bounds → ℕ
class_start R b = b.headers_end
class_start Rx b = b.rx_start
class_start TlsBits b = b.rw_start
class_start TlsNobits b = b.tls_bits_end
class_start RwBits b = b.tls_bits_end
class_start RwNobits b = b.bits_end

abbrev pub class_end : Class → Bounds → ℕ
class_end R b = b.r_end
class_end Rx b = b.rx_end
class_end TlsBits b = b.tls_bits_end
class_end TlsNobits b = b.tls_end
class_end RwBits b = b.bits_end
class_end RwNobits b = b.nobits_end

abbrev pub bytes_end : Class → Bounds → ℕ
bytes_end R b = b.file_end
bytes_end Rx b = b.file_end
bytes_end TlsBits b = b.file_end
bytes_end TlsNobits b = b.tls_end
bytes_end RwBits b = b.file_end
bytes_end RwNobits b = b.image_end

-- an output section's bytes lie within its class
pub record IsWithinClass (b : Bounds) (s : OutputSection) : Type 0 where
  pub from : class_start s.class b ≤ s.address
  pub to : s.address + s.size ≤ class_end s.class b
  pub inside : s.address + s.size ≤ bytes_end s.class b

-- output sections one after the other from an address on: none starts below the end of the one before
abbrev pub AreApart : ℕ → List OutputSection → Type 0
AreApart from [] = Unit {0}
AreApart from (s ∷ ss) = (from ≤ s.address) × AreApart (s.address + s.size) ss

-- thread-local nobits share their addresses with RW bits
abbrev pub is_tls_nobits : Class → Bool
is_tls_nobits R = false
is_tls_nobits Rx = false
is_tls_nobits TlsBits = false
is_tls_nobits TlsNobits = true
is_tls_nobits RwBits = false
is_tls_nobits RwNobits = false

-- all others
abbrev pub without_tls_nobits : List OutputSection → List OutputSection
without_tls_nobits outputs = filter (λ s. not (is_tls_nobits s.class)) outputs

-- members one after the other from an address on, too
abbrev pub AreInOrder : ℕ → List Member → Type 0
AreInOrder from [] = Unit {0}
AreInOrder from (m ∷ ms) = (from ≤ m.start) × AreInOrder (m.start + m.size) ms

-- the members without bytes in the file are two runs, each one after the other: one from the end of the thread-local bytes of the file on, and one from the
-- end of the other bytes on
pub record HaveNobits (laid : LaidOut) : Type 0 where
  pub threads : List Member
  pub others : List Member
  pub all : laid.nobits_members ≡ threads ++ others
  pub threads_order : AreInOrder laid.bounds.tls_bits_end threads
  pub threads_end : All (λ m. m.start + m.size ≤ laid.bounds.tls_end) threads
  pub others_order : AreInOrder laid.bounds.bits_end others
  pub others_end : All (λ m. m.start + m.size ≤ laid.bounds.nobits_end) others

-- each member that is a section starts at a multiple of its alignment
pub record HaveAlignments (files : List File) (b : Bindings) (laid : LaidOut) : Type 0 where
  pub members : All (λ m. (n : ℕ) → m.content ≡ Section n → m.start % (input_at files b n).align ≡ 0) laid.members
  pub nobits_members : All (λ m. (n : ℕ) → m.content ≡ Section n → m.start % (input_at files b n).align ≡ 0) laid.nobits_members

-- each section that is its own leader starts at a multiple of its alignment, each pool at one of its first section's, and the table of words of eight
-- bytes at one of 8; whether their output sections have bytes or not
pub record StartAligned (files : List File) (b : Bindings) (pools : List Pool) (leaders : List (Option ℕ)) (laid : LaidOut) : Type 0 where
  pub sections : (n : ℕ) → n < section_total files → leads leaders n ≡ true → start_at laid n % (input_at files b n).align ≡ 0
  pub merged : (p : ℕ) (d : Pool) → p < length pools → slice_index laid.pools p % (input_at files b (slice_index_or pools p d).first).align ≡ 0
  pub table : laid.got % 8 ≡ 0
