-- Worked examples: a flat PDU of each of the 28 kinds, with every field different, what they are written as, and that these bytes read to them. Assumes nothing.
use Rattle.octets.proofs.Kit.{ℕ, ◌-◌, ◌≡◌, refl, List, [], ◌∷◌, ◌++◌, map, length, replicate}
use Rattle.octets.specs.{Bytes.{num_at, bytes_of}, Splice.splice}
use Rattle.pdu.specs.{Table.find, Rules.{low_at, four_at, twelve_at, head_bytes}, Read.read_pdu, Write.{encoded, writable, write_of}}
use Rattle.tool.specs.{Flat.{place_in, kind_of, flat_read, meant_by, meant_write, meant_buffer, flat_written}, declared.{FlatPdu.FlatPdu, FlatWritten.FlatWritten}}

-- a flat PDU, its data, and the APDU that it is
pub record Example : Type 0 where
  pub flat : FlatPdu
  pub rest : List ℕ
  pub apdu : List ℕ

-- its kind and fields in the order of the header's table: v, t, level; serial, address, domain, key; object, id, n, s; index, type, maximum, access; and where the data starts
abbrev example : (kind v t level serial address domain key object id n s index typ maximum access at : ℕ) → List ℕ → List ℕ → Example
example kind v t level serial address domain key object id n s index typ maximum access at rest apdu =
    record {
      flat =
          record {
            serial = serial;
            key = key;
            address = address;
            domain = domain;
            s = s;
            maximum = maximum;
            outcome = 0;
            kind = kind;
            v = v;
            t = t;
            object = object;
            id = id;
            n = n;
            index = index;
            typ = typ;
            access = access;
            level = level;
            data_offset = at;
            data_length = length rest;
          };
      rest = rest;
      apdu = apdu;
    }

abbrev pub examples : List Example
examples =
    -- a group value of six bits, a descriptor type, an address
    example 2 0x15 0 0 0 0 0 0 0 0 0 0 0 0 0 0 2 [] (0x00 ∷ 0x95 ∷ []) ∷
    example 7 0 0x09 0 0 0 0 0 0 0 0 0 0 0 0 0 2 [] (0x03 ∷ 0x09 ∷ []) ∷
    example 3 0 0 0 0 0x0102 0 0 0 0 0 0 0 0 0 0 4 [] (0x00 ∷ 0xC0 ∷ 0x01 ∷ 0x02 ∷ []) ∷
    -- serial and address, serial and domain
    example 6 0 0 0 0x010203040506 0x0708 0 0 0 0 0 0 0 0 0 0 14 [] (0x03 ∷ 0xDE ∷ 0x01 ∷ 0x02 ∷ 0x03 ∷ 0x04 ∷ 0x05 ∷ 0x06 ∷ 0x07 ∷ 0x08 ∷ 0x00 ∷ 0x00 ∷ 0x00 ∷ 0x00 ∷ []) ∷
    example 18 0 0 0 0x010203040506 0 0x0708 0 0 0 0 0 0 0 0 0 12 [] (0x03 ∷ 0xDD ∷ 0x01 ∷ 0x02 ∷ 0x03 ∷ 0x04 ∷ 0x05 ∷ 0x06 ∷ 0x07 ∷ 0x08 ∷ 0x00 ∷ 0x00 ∷ []) ∷
    -- a property's value read and written, its description asked for and given
    example 8 0 0 0 0 0 0 0 0x01 0x02 3 0x405 0 0 0 0 6 [] (0x03 ∷ 0xD5 ∷ 0x01 ∷ 0x02 ∷ 0x34 ∷ 0x05 ∷ []) ∷
    example 9 0 0 0 0 0 0 0 0x01 0x02 3 0x405 0 0 0 0 6 (0x06 ∷ 0x07 ∷ []) (0x03 ∷ 0xD7 ∷ 0x01 ∷ 0x02 ∷ 0x34 ∷ 0x05 ∷ 0x06 ∷ 0x07 ∷ []) ∷
    example 10 0 0 0 0 0 0 0 0x01 0x02 0 0 0x03 0 0 0 5 [] (0x03 ∷ 0xD8 ∷ 0x01 ∷ 0x02 ∷ 0x03 ∷ []) ∷
    example 21 0 0 0 0 0 0 0 0x01 0x02 0 0 0x03 0x04 0x506 0x07 9 [] (0x03 ∷ 0xD9 ∷ 0x01 ∷ 0x02 ∷ 0x03 ∷ 0x04 ∷ 0x05 ∷ 0x06 ∷ 0x07 ∷ []) ∷
    -- memory and its bits written
    example 12 0 0 0 0 0x0304 0 0 0 0 2 0 0 0 0 0 4 (0x05 ∷ 0x06 ∷ []) (0x02 ∷ 0x82 ∷ 0x03 ∷ 0x04 ∷ 0x05 ∷ 0x06 ∷ []) ∷
    example 13 0 0 0 0 0x0203 0 0 0 0 1 0 0 0 0 0 5 (0x04 ∷ 0x05 ∷ []) (0x03 ∷ 0xD0 ∷ 0x01 ∷ 0x02 ∷ 0x03 ∷ 0x04 ∷ 0x05 ∷ []) ∷
    -- user memory read, given and written
    example 25 0 0 0 0 0x0203 0 0 0 0 0x14 0 0 0 0 0 5 [] (0x02 ∷ 0xC0 ∷ 0x14 ∷ 0x02 ∷ 0x03 ∷ []) ∷
    example 26 0 0 0 0 0x0203 0 0 0 0 1 0 0 0 0 0 5 (0x04 ∷ []) (0x02 ∷ 0xC1 ∷ 0x01 ∷ 0x02 ∷ 0x03 ∷ 0x04 ∷ []) ∷
    example 27 0 0 0 0 0x0304 0 0 0 0 2 0 0 0 0 0 5 (0x05 ∷ 0x06 ∷ []) (0x02 ∷ 0xC2 ∷ 0x02 ∷ 0x03 ∷ 0x04 ∷ 0x05 ∷ 0x06 ∷ []) ∷
    -- a group value asked for and given, an address asked for and told, a serial asked for
    example 0 0 0 0 0 0 0 0 0 0 0 0 0 0 0 0 2 [] (0x00 ∷ 0x00 ∷ []) ∷
    example 1 0 0 0 0 0 0 0 0 0 0 0 0 0 0 0 2 (0x01 ∷ 0x02 ∷ []) (0x00 ∷ 0x40 ∷ 0x01 ∷ 0x02 ∷ []) ∷
    example 4 0 0 0 0 0 0 0 0 0 0 0 0 0 0 0 2 [] (0x01 ∷ 0x00 ∷ []) ∷
    example 17 0 0 0 0 0 0 0 0 0 0 0 0 0 0 0 2 [] (0x01 ∷ 0x40 ∷ []) ∷
    example 5 0 0 0 0x010203040506 0 0 0 0 0 0 0 0 0 0 0 8 [] (0x03 ∷ 0xDC ∷ 0x01 ∷ 0x02 ∷ 0x03 ∷ 0x04 ∷ 0x05 ∷ 0x06 ∷ []) ∷
    -- a descriptor given, a property's value given
    example 19 0 0x09 0 0 0 0 0 0 0 0 0 0 0 0 0 2 (0x01 ∷ 0x02 ∷ []) (0x03 ∷ 0x49 ∷ 0x01 ∷ 0x02 ∷ []) ∷
    example 20 0 0 0 0 0 0 0 0x01 0x02 3 0x405 0 0 0 0 6 (0x06 ∷ 0x07 ∷ []) (0x03 ∷ 0xD6 ∷ 0x01 ∷ 0x02 ∷ 0x34 ∷ 0x05 ∷ 0x06 ∷ 0x07 ∷ []) ∷
    -- memory read and given
    example 11 0 0 0 0 0x0304 0 0 0 0 2 0 0 0 0 0 4 [] (0x02 ∷ 0x02 ∷ 0x03 ∷ 0x04 ∷ []) ∷
    example 22 0 0 0 0 0x0304 0 0 0 0 2 0 0 0 0 0 4 (0x05 ∷ 0x06 ∷ []) (0x02 ∷ 0x42 ∷ 0x03 ∷ 0x04 ∷ 0x05 ∷ 0x06 ∷ []) ∷
    -- a key offered, a level granted, a level's key set; a restart
    example 14 0 0 0 0 0 0 0x01020304 0 0 0 0 0 0 0 0 7 [] (0x03 ∷ 0xD1 ∷ 0x00 ∷ 0x01 ∷ 0x02 ∷ 0x03 ∷ 0x04 ∷ []) ∷
    example 23 0 0 0x01 0 0 0 0 0 0 0 0 0 0 0 0 3 [] (0x03 ∷ 0xD2 ∷ 0x01 ∷ []) ∷
    example 24 0 0 0x01 0 0 0 0 0 0 0 0 0 0 0 0 3 [] (0x03 ∷ 0xD4 ∷ 0x01 ∷ []) ∷
    example 16 0 0 0 0 0 0 0 0 0 0 0 0 0 0 0 2 [] (0x03 ∷ 0x80 ∷ []) ∷
    -- level and key
    example 15 0 0 0x01 0 0 0 0x02030405 0 0 0 0 0 0 0 0 7 [] (0x03 ∷ 0xD3 ∷ 0x01 ∷ 0x02 ∷ 0x03 ∷ 0x04 ∷ 0x05 ∷ []) ∷
    []

-- what reading and writing give of it, into 16 bytes, and what they should
pub record Result : Type 0 where
  pub read : FlatPdu
  pub written : FlatWritten
  pub buffer : List ℕ

abbrev room : List ℕ
room = replicate 16 0xEE

abbrev found : Example → Result
found x =
    record {
      read = flat_read x.apdu;
      written = flat_written (meant_write (meant_by x.flat) x.rest room);
      buffer = meant_buffer (meant_by x.flat) x.rest room;
    }

abbrev wanted : Example → Result
wanted x =
    record {
      read = x.flat;
      written = record { outcome = 0; count = length x.apdu };
      buffer = x.apdu ++ replicate (16 - length x.apdu) 0xEE;
    }

-- ALL EXAMPLES ARE READ AND WRITTEN SO
pub flat_examples : map found examples ≡ map wanted examples
unfolding flat_read meant_by kind_of place_in read_pdu write_of writable find splice encoded head_bytes num_at bytes_of low_at four_at twelve_at
flat_examples = refl
