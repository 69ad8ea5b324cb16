-- What writing a frame gives.
use Rattle.std.specs.Prelude.{ℕ, ◌+◌, ◌-◌, ◌*◌, ◌%◌, ◌≡◌, Bool, cond, ◌&&◌, List, [], ◌∷◌, ◌++◌, length, get_or, leb, ltb, Result, Ok, Err, is_ok}
use Rattle.octets.specs.Splice.{splice}
use Rattle.cemi.specs.Layout.{table, octet6, bytes_in}
use Rattle.cemi.specs.Read.{refusal_of}
use Rattle.cemi.specs.declared.Fields.{Fields}
use Rattle.cemi.specs.declared.Frame.{Frame}
use Rattle.cemi.specs.declared.WriteRefusal.{WriteRefusal}
use Rattle.cemi.specs.declared.WriteRefusal.TheVariants as why
use Rattle.cemi.specs.Refusal.{write_number}

-- the numbers of the table, x being the length byte
abbrev pub numbers_of : Fields → ℕ → List ℕ
numbers_of f x = f.control1 ∷ f.control2 ∷ f.source ∷ f.destination ∷ x ∷ []

-- an APDU with transport's bits in its top six
unfoldable pub under : ℕ → List ℕ → List ℕ
under t [] = []
under t (x ∷ a) = (t * 4 + x % 4) ∷ a

-- message code and additional information
abbrev pub front_bytes : ℕ → List ℕ → List ℕ
front_bytes c i = c ∷ length i ∷ i

-- THE BYTES OF A FRAME with these fields, additional information and APDU
unfoldable pub encoded : Fields → List ℕ → List ℕ → List ℕ
encoded f i a = front_bytes f.code i ++ (bytes_in table (numbers_of f (length a - 1)) ++ under f.transport a)

-- the frame that they are
abbrev pub frame_of : Fields → List ℕ → List ℕ → Frame
frame_of f i a = record { fields = f; low = get_or a 0 0 % 4; info = length i; stated = length a - 1 }

-- how many they are, of l and k bytes
abbrev pub count_of : ℕ → ℕ → ℕ
count_of l k = octet6 l + k

-- a frame that reads can have these fields, l bytes of additional information and k from octet 6 on
unfoldable pub writable : Fields → ℕ → ℕ → Bool
writable f l k =
    leb l 255 && (leb f.transport 63 && (leb 1 k && (leb k 16 && is_ok (refusal_of (count_of l k) l f (k - 1)))))

-- WHAT WRITING GIVES: 47, then 46, or the count of bytes
unfoldable pub write_of : Fields → ℕ → ℕ → ℕ → Result ℕ WriteRefusal
write_of f l k room =
    cond (writable f l k) (cond (ltb room (count_of l k)) (Err why.Room) (Ok (count_of l k))) (Err why.Fields)

-- the outcome of a writing by its number, and its count
abbrev pub write_outcome : Result ℕ WriteRefusal → ℕ
write_outcome (Ok n) = 0
write_outcome (Err e) = write_number e

abbrev pub write_count : Result ℕ WriteRefusal → ℕ
write_count (Ok n) = n
write_count (Err e) = 0

-- what the buffer o then holds: the bytes in front, and the rest as found; on a refusal, all as found
abbrev pub buffer_of : Fields → List ℕ → List ℕ → List ℕ → Result ℕ WriteRefusal → List ℕ
buffer_of f i a o (Ok n) = splice o 0 (encoded f i a)
buffer_of f i a o (Err r) = o

pub record Wrote (f : Fields) (i a o : List ℕ) (r : Result ℕ WriteRefusal) (e : List ℕ) : Type 0 where
  pub result : r ≡ write_of f (length i) (length a) (length o)
  pub buffer : e ≡ buffer_of f i a o r
