-- Numbers in decimal, and lines of fields (document 01, "One reading, whole").
-- Assumes nothing.
use Prim.Native.Char.{code}
use Rattle.std.specs.Prelude.{◌%◌, ◌+◌, ◌/◌, suc, zero, ℕ, ltb, Bool, false, true, List, [], ◌++◌, ◌∷◌}
use Rattle.text.specs.Ascii.{bytes_of}

-- a digit's byte
abbrev pub digit : ℕ → List ℕ
digit d = (code "0" + d) ∷ []

-- a number below 10 as its digit; else its tenth, as `tens` writes that, and its last digit
abbrev pub digits_by : Bool → (ℕ → List ℕ) → ℕ → List ℕ
digits_by true tens n = digit n
digits_by false tens n = tens (n / 10) ++ digit (n % 10)

-- the decimal of a number of at most `fuel`
unfoldable pub decimal_by : ℕ → ℕ → List ℕ
decimal_by zero n = digit (n % 10)
decimal_by (suc fuel) n = digits_by (ltb n 10) (decimal_by fuel) n

-- a number in decimal, without leading zeros, 0 as "0"
unfoldable pub decimal : ℕ → List ℕ
decimal n = decimal_by n n

-- a field behind one space
unfoldable pub field : List ℕ → List ℕ
field f = code " " ∷ f

unfoldable pub fields : List (List ℕ) → List ℕ
fields [] = []
fields (f ∷ l) = field f ++ fields l

-- "Fields, parted by one space, each line closed by a line feed": the first field, and the others
unfoldable pub line : List ℕ → List (List ℕ) → List ℕ
line first others = first ++ (fields others ++ bytes_of "\n")
