-- The frame on the line (document 01, "The frame"; 000, "Packet Format" and "Byte Stuffing").
use Rattle.std.specs.Prelude.{◌≡◌, ℕ, ◌+◌, ◌%◌, Bool, false, cond, ◌||◌, List, [], ◌∷◌, ◌++◌, length, take, drop, ◌==◌, slice_index}

-- (000) SOF, the start of a frame
abbrev pub sof : ℕ
sof = 0xCA

-- (000) EOF, its end
abbrev pub eof : ℕ
eof = 0x35

-- (000) the escape
abbrev pub esc : ℕ
esc = 0x2F

-- (01) the most data bytes of a frame: what the Length byte can say
abbrev pub most_data : ℕ
most_data = 255

-- (01) the places of a body: Length, Type, the most data, and Checksum
abbrev pub places : ℕ
places = most_data + 3

-- (000) the three values that an escape stands before
abbrev pub special : ℕ → Bool
special b = b == sof || b == eof || b == esc

-- (000, 01) byte stuffing: an escape before each of the three values, and before no other
unfoldable pub stuffed : List ℕ → List ℕ
stuffed [] = []
stuffed (b ∷ bs) = cond (special b) (esc ∷ b ∷ stuffed bs) (b ∷ stuffed bs)

-- (000) the bytes added up
unfoldable pub sum : List ℕ → ℕ
sum [] = 0
sum (b ∷ bs) = b + sum bs

-- (000, 01) the sum modulo 256; of Length, Type and all data bytes it is the frame's checksum
unfoldable pub checksum : List ℕ → ℕ
unfolding sum
checksum bs = sum bs % 256

-- (000) Length, Type and Data
abbrev pub header : ℕ → List ℕ → List ℕ
header ptype bytes = length bytes ∷ ptype ∷ bytes

-- (01) the body of a packet: Length, Type, Data and Checksum, with no escapes
abbrev pub packet : ℕ → List ℕ → List ℕ
packet ptype bytes = header ptype bytes ++ checksum (header ptype bytes) ∷ []

-- (000) a body on the line: SOF, the body with its escapes, EOF
unfoldable pub enclosed : List ℕ → List ℕ
enclosed body = sof ∷ stuffed body ++ eof ∷ []

-- (000, 01) the frame of a type and data
abbrev pub frame : ℕ → List ℕ → List ℕ
frame ptype bytes = enclosed (packet ptype bytes)

-- (000) what a body says: its Length N; 0 where the body is empty (ours, D-2)
abbrev pub length_of : List ℕ → ℕ
length_of body = slice_index body 0

-- (000) its Type
abbrev pub type_of : List ℕ → ℕ
type_of body = slice_index body 1

-- (000) its N data bytes, after Length and Type
abbrev pub data_of : List ℕ → List ℕ
data_of body = take (length_of body) (drop 2 body)

-- (01) bytes and a way to put them on the line: an escape stands before each of the three values, and may stand before another
pub data Stuffing : List ℕ → List ℕ → Type 0 where
  none : Stuffing [] []
  bare : {b : ℕ} {bs line : List ℕ} → special b ≡ false → Stuffing bs line → Stuffing (b ∷ bs) (b ∷ line)
  escaped : {b : ℕ} {bs line : List ℕ} → Stuffing bs line → Stuffing (b ∷ bs) (esc ∷ b ∷ line)

-- (01) a valid frame of a type and data, with or without needless escapes
pub data Valid (ptype : ℕ) (bytes : List ℕ) : List ℕ → Type 0 where
  valid : {line : List ℕ} → Stuffing (packet ptype bytes) line → Valid ptype bytes (sof ∷ line ++ eof ∷ [])
