-- What a malformed line looks like, for its reason and its hint (a choice of this project, not fixed by the standard). A line is a list
-- of bytes.
use Rattle.std.specs.Prelude.{ℕ, Bool, ◌&&◌, ◌||◌, not, true, false, List, [], ◌∷◌, take, drop, length, codes, ◌==◌, nat_eq, if◌then◌else◌, Option, Some, None}
use Rattle.std.specs.Char.{is_ascii_alphanumeric, is_ascii_whitespace}
use Rattle.std.specs.List.{prefix_len, slice_get, starts_with}
use Rattle.std.specs.Str.{str_eq_ignore_ascii_case}
use Rattle.line_diagnosis.specs.declared.reason.Packing.{Packing}
use Rattle.line_diagnosis.specs.declared.reason.Packing.TheVariants.{Gzip, Xz, Zstd, Bzip2}

-- the first bytes of a compressed file: RFC 1952, section 2.3.1; The .xz File Format, section 2.1.1.1, without its last byte;
-- RFC 8878, section 3.1.1; the first bytes that bzip2 writes
abbrev pub magic : Packing → List ℕ
magic Gzip = 0x1F ∷ 0x8B ∷ []
magic Xz = 0xFD ∷ codes "7zXZ"
magic Zstd = 0x28 ∷ 0xB5 ∷ 0x2F ∷ 0xFD ∷ []
magic Bzip2 = codes "BZh"

-- the byte order mark in UTF-8 (The Unicode Standard, section 23.8)
abbrev pub begins_with_mark : List ℕ → Bool
begins_with_mark line = starts_with nat_eq line (0xEF ∷ 0xBB ∷ 0xBF ∷ [])

-- one of the two bytes is NUL, and the other is not
abbrev pub has_one_nul : Option ℕ → Option ℕ → Bool
has_one_nul (Some a) (Some b) = if nat_eq a 0 then not (nat_eq b 0) else nat_eq b 0
has_one_nul _ _ = false

-- the byte order mark in UTF-16, or the first two bytes of a text that begins with an ASCII character
abbrev pub is_utf16 : List ℕ → Bool
is_utf16 line =
    starts_with nat_eq line (0xFF ∷ 0xFE ∷ [])
    || (starts_with nat_eq line (0xFE ∷ 0xFF ∷ []) || has_one_nul (slice_get line 0) (slice_get line 1))

-- the text begins with these letters, in any case
abbrev pub begins_with : List ℕ → List ℕ → Bool
begins_with text letters = str_eq_ignore_ascii_case (take (length letters) text) letters

-- the name of a tag goes on with a letter, a digit or a colon
abbrev pub goes_on : Option ℕ → Bool
goes_on None = false
goes_on (Some c) = is_ascii_alphanumeric c || c == 58

-- the text begins with the tag `<html`, in any case; in `<html:p>` the name of the tag is a longer one
abbrev pub is_html_tag : List ℕ → Bool
is_html_tag text = begins_with text (codes "<html") && not (goes_on (slice_get text 5))

-- the text begins with this tag or with `<!doctype html`, in any case
abbrev pub is_html_text : List ℕ → Bool
is_html_text text = is_html_tag text || begins_with text (codes "<!doctype html")

-- a line as an HTML document begins, perhaps after white space
abbrev pub is_html : List ℕ → Bool
is_html line = is_html_text (drop (prefix_len is_ascii_whitespace line) line)

-- a word ends before a space or a tab, and at the end of the line
abbrev pub ends_word : Option ℕ → Bool
ends_word None = true
ends_word (Some c) = c == 32 || c == 9

-- the line begins with this mark, which is a word
abbrev pub is_marked : List ℕ → List ℕ → Bool
is_marked line mark = starts_with nat_eq line mark && ends_word (slice_get line (length mark))

-- a line with which a merge conflict is marked
abbrev pub is_conflict_mark : List ℕ → Bool
is_conflict_mark line =
    is_marked line (codes "<<<<<<<")
    || (is_marked line (codes "|||||||") || (is_marked line (codes "=======") || is_marked line (codes ">>>>>>>")))
