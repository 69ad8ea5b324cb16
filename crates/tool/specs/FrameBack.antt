-- What reading gives back of a flat frame that was written, and when a flat frame is one of C's.
use Rattle.std.specs.Prelude.{ℕ, ◌<◌, ◌≡◌, List, take, drop}
use Rattle.cemi.specs.Write.{under}
use Rattle.tool.specs.declared.FlatFrame.{FlatFrame}

-- the parts of a frame b, where a flat frame says that they stand: the additional information, and the bytes from octet 6 on
abbrev pub info_in : FlatFrame → List ℕ → List ℕ
info_in f b = take f.info_length (drop f.info_offset b)

abbrev pub tpdu_in : FlatFrame → List ℕ → List ℕ
tpdu_in f b = take f.tpdu_length (drop f.tpdu_offset b)

-- each field is a number of its C type: what every flat frame that C lends is
pub record FrameInC (f : FlatFrame) : Type 0 where
  pub source : f.source < 65536
  pub destination : f.destination < 65536
  pub control1 : f.control1 < 256
  pub control2 : f.control2 < 256

-- g IS WHAT READING THE BYTES b GIVES BACK of f with the additional information i and the APDU a: the same fields, the same information, and the APDU under transport's bits
pub record FrameGivenBack (f : FlatFrame) (i a b : List ℕ) (g : FlatFrame) : Type 0 where
  pub outcome : g.outcome ≡ 0
  pub code : g.code ≡ f.code
  pub control1 : g.control1 ≡ f.control1
  pub control2 : g.control2 ≡ f.control2
  pub source : g.source ≡ f.source
  pub destination : g.destination ≡ f.destination
  pub transport : g.transport ≡ f.transport
  pub info : info_in g b ≡ i
  pub tpdu : tpdu_in g b ≡ under f.transport a
