-- Meaning: words of public contracts.
-- Unicode code points of the characters that definitions and contracts name.
use Rattle.std.specs.Prelude.{ℕ}

abbrev pub tab : ℕ
tab = 9

abbrev pub line_feed : ℕ
line_feed = 10

abbrev pub carriage_return : ℕ
carriage_return = 13

abbrev pub escape : ℕ
escape = 27

abbrev pub space : ℕ
space = 32

abbrev pub quote : ℕ
quote = 34

abbrev pub hash : ℕ
hash = 35

abbrev pub dollar : ℕ
dollar = 36

abbrev pub percent : ℕ
percent = 37

abbrev pub ampersand : ℕ
ampersand = 38

abbrev pub apostrophe : ℕ
apostrophe = 39

abbrev pub open_parenthesis : ℕ
open_parenthesis = 40

abbrev pub close_parenthesis : ℕ
close_parenthesis = 41

abbrev pub plus : ℕ
plus = 43

abbrev pub comma : ℕ
comma = 44

abbrev pub hyphen : ℕ
hyphen = 45

abbrev pub point : ℕ
point = 46

abbrev pub slash : ℕ
slash = 47

abbrev pub zero : ℕ
zero = 48

abbrev pub colon : ℕ
colon = 58

abbrev pub less : ℕ
less = 60

abbrev pub equals : ℕ
equals = 61

abbrev pub greater : ℕ
greater = 62

abbrev pub question : ℕ
question = 63

abbrev pub at : ℕ
at = 64

abbrev pub upper_c : ℕ
upper_c = 67

abbrev pub upper_d : ℕ
upper_d = 68

abbrev pub upper_h : ℕ
upper_h = 72

abbrev pub upper_i : ℕ
upper_i = 73

abbrev pub upper_l : ℕ
upper_l = 76

abbrev pub upper_m : ℕ
upper_m = 77

abbrev pub upper_t : ℕ
upper_t = 84

abbrev pub upper_v : ℕ
upper_v = 86

abbrev pub upper_x : ℕ
upper_x = 88

abbrev pub upper_z : ℕ
upper_z = 90

abbrev pub open_bracket : ℕ
open_bracket = 91

abbrev pub backslash : ℕ
backslash = 92

abbrev pub close_bracket : ℕ
close_bracket = 93

abbrev pub circumflex : ℕ
circumflex = 94

abbrev pub underscore : ℕ
underscore = 95

abbrev pub grave : ℕ
grave = 96

abbrev pub letter_a : ℕ
letter_a = 97

abbrev pub letter_b : ℕ
letter_b = 98

abbrev pub letter_c : ℕ
letter_c = 99

abbrev pub letter_d : ℕ
letter_d = 100

abbrev pub letter_i : ℕ
letter_i = 105

abbrev pub letter_k : ℕ
letter_k = 107

abbrev pub letter_l : ℕ
letter_l = 108

abbrev pub letter_m : ℕ
letter_m = 109

abbrev pub letter_n : ℕ
letter_n = 110

abbrev pub letter_r : ℕ
letter_r = 114

abbrev pub letter_u : ℕ
letter_u = 117

abbrev pub letter_v : ℕ
letter_v = 118

abbrev pub letter_x : ℕ
letter_x = 120

abbrev pub open_brace : ℕ
open_brace = 123

abbrev pub close_brace : ℕ
close_brace = 125

abbrev pub tilde : ℕ
tilde = 126

abbrev pub copyright_sign : ℕ
copyright_sign = 169

abbrev pub acute : ℕ
acute = 180

abbrev pub en_dash : ℕ
en_dash = 8211

abbrev pub em_dash : ℕ
em_dash = 8212
