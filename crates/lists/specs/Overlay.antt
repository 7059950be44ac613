-- A list laid over the front of another: what an array, or a lent buffer, holds after its front was written.
use Rattle.std.specs.Prelude.{List, ◌++◌, length, drop}

-- (ours) the front, and after it what stood there before
unfoldable pub overlay : {A : Type 0} → List A → List A → List A
overlay front base = front ++ drop (length front) base
