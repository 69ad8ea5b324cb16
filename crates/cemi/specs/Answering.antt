-- A FRAME THAT ANSWERS ANOTHER: its fields. It has no additional information.
use Rattle.std.specs.Prelude.{ℕ, ◌+◌, ◌*◌, ◌/◌, ◌%◌, cond, leb, eqb}
use Rattle.cemi.specs.Layout.{request}
use Rattle.cemi.specs.Meaning.{connected}
use Rattle.cemi.specs.declared.Fields.{Fields}

-- of a request with the fields f in a mode, by the device with the address `own`: to the group if a group was asked, else to who asked.
-- Control 1 is B0h with the request's priority, bits 3 and 2; control 2 is 60h with its address type, bit 7: so repeat bit and hop count are not the request's.
-- Connected data has a sequence number, of which four bits are sent.
unfoldable pub answering : Fields → ℕ → ℕ → ℕ → Fields
answering f own mode sequence =
    record {
      code = request;
      control1 = 0xB0 + f.control1 / 4 % 4 * 4;
      control2 = cond (leb 128 f.control2) 0xE0 0x60;
      source = own;
      destination = cond (leb 128 f.control2) f.destination f.source;
      transport = cond (eqb mode connected) (16 + sequence % 16) 0;
    }
