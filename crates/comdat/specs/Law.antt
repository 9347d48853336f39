-- Of the COMDAT groups of one signature the first stays, and no other.
use Rattle.std.specs.Prelude.{◌≡◌, ◌≤◌, false, List, Contains}
use Rattle.comdat.specs.Discarded.{Comdat, goes, rank}

-- one group of the signature of g stays
pub record HasKept (groups : List Comdat) (g : Comdat) : Type 0 where
  pub one : Comdat
  pub listed : Contains groups one
  pub same : one.signature ≡ g.signature
  pub stays : goes groups one ≡ false

-- Of each signature one stays, and one that stays is the first of its signature; so two that stay stand at one place
pub record KeepsFirst (groups : List Comdat) : Type 0 where
  pub kept : (g : Comdat) → Contains groups g → HasKept groups g
  pub first : (g h : Comdat) → Contains groups g → Contains groups h → g.signature ≡ h.signature → goes groups g ≡ false → rank g ≤ rank h
