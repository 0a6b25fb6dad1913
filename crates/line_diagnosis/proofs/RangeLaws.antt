-- The ranges of the characters of IRIs.
use Rattle.std.proofs.Common.{◌≡◌, ◌≢◌, ℕ, ◌≤◌, ◌<◌, Bool, true, false, List, [], ◌∷◌, refl, sym, ap, ◌∙◌, subst, lit<, inl, inr, ◌⊎◌, arith}
use Rattle.std.specs.Prelude.{◌&&◌, nat_le, nat_lt}
use Rattle.std.proofs.lemmas.Bool.{cases_lt, ne_eqb}
use Rattle.std.proofs.lemmas.Bool.Decides.{nat_tests}
use Rattle.std.proofs.Math.Utf8.{scalar_cases}
use lib.Utf8.{scalar}
use Rattle.rdf_core.specs.Characters.{in_ranges, is_iri_char}
use Rattle.rdf_core.proofs.EscapeLaws.{and_is, and_parts}
use Rattle.nquads_core.proofs.RunLaws.{or_parts}
use Rattle.line_diagnosis.specs.declared.state.Scheme.TheVariants as scheme
use Rattle.line_diagnosis.specs.declared.state.Scheme.{Scheme}
use Rattle.line_diagnosis.specs.Rest.{AreRanges, may_come}
use Rattle.line_diagnosis.proofs.DigitLaws.{or_first, or_second, range_is, range_parts}

abbrev iri_list : List (ℕ × ℕ)
iri_list = (33, 33) ∷ (35, 59) ∷ (61, 61) ∷ (63, 91) ∷ (93, 93) ∷ (95, 95) ∷ (97, 122) ∷ (126, 55295) ∷ (57344, 1114111) ∷ []

-- one of the ranges, or one of the others
in_first : (a b c : ℕ) (others : List (ℕ × ℕ)) → a ≤ c → c ≤ b → in_ranges ((a, b) ∷ others) c ≡ true
in_first a b c others h k = or_first (nat_le a c && nat_le c b) (in_ranges others c) (range_is a b c h k)

in_others : (a b c : ℕ) (others : List (ℕ × ℕ)) → in_ranges others c ≡ true → in_ranges ((a, b) ∷ others) c ≡ true
in_others a b c others h = or_second (nat_le a c && nat_le c b) (in_ranges others c) h

cases_in : (a b c : ℕ) (others : List (ℕ × ℕ)) → in_ranges ((a, b) ∷ others) c ≡ true → ((a ≤ c) × (c ≤ b)) ⊎ (in_ranges others c ≡ true)
cases_in a b c others h = elim (or_parts (nat_le a c && nat_le c b) (in_ranges others c) h) [
  | inl k ↦ inl (range_parts a b c k)
  | inr k ↦ inr k
]

not_this : (c x : ℕ) → is_iri_char x ≡ false → is_iri_char c ≡ true → c ≢ x
not_this c x n h e = let no : ⊥ = cc (sym n ∙ ap is_iri_char (sym e) ∙ h) in no

above_space : (c : ℕ) → is_iri_char c ≡ true → 32 < c
above_space c h = grind (arith, nat_tests)

above_is : (c : ℕ) → 32 < c → (nat_lt 32 c && true) ≡ true
above_is c h = grind (arith, nat_tests)

iri_is : (c : ℕ) → 32 < c → c ≢ 60 → c ≢ 62 → c ≢ 34 → c ≢ 123 → c ≢ 125 → c ≢ 124 → c ≢ 94 → c ≢ 96 → c ≢ 92 → is_iri_char c ≡ true
iri_is c h a b d e f g i j k = rw (ne_eqb c 60 a, ne_eqb c 62 b, ne_eqb c 34 d, ne_eqb c 123 e, ne_eqb c 125 f, ne_eqb c 124 g, ne_eqb c 94 i, ne_eqb c 96 j, ne_eqb c 92 k) (above_is c h)

scalar_low : (c : ℕ) → c < 55296 → scalar c ≡ true
scalar_low c h = grind (arith, nat_tests)

scalar_high : (c : ℕ) → 57344 ≤ c → c < 1114112 → scalar c ≡ true
scalar_high c h k = grind (arith, nat_tests)

apart : (a b c x : ℕ) → a ≤ c → c ≤ b → (b < x) ⊎ (x < a) → c ≢ x
apart a b c x h k (inl l) e = omega arith
apart a b c x h k (inr l) e = omega arith

more_than : (n a c : ℕ) → n < a → a ≤ c → n < c
more_than n a c h k = omega arith

less_than : (c b n : ℕ) → c ≤ b → b < n → c < n
less_than c b n h k = omega arith

-- a range that has no character that IRIs do not allow
range_chars : (a b c : ℕ) → a ≤ c → c ≤ b → 32 < a → b < 55296 → (b < 60) ⊎ (60 < a) → (b < 62) ⊎ (62 < a) → (b < 34) ⊎ (34 < a) → (b < 123) ⊎ (123 < a) → (b < 125) ⊎ (125 < a) → (b < 124) ⊎ (124 < a) → (b < 94) ⊎ (94 < a) → (b < 96) ⊎ (96 < a) → (b < 92) ⊎ (92 < a) → (is_iri_char c && scalar c) ≡ true
range_chars a b c h k l n m p q r s t u v w = and_is (is_iri_char c) (scalar c)
    (iri_is c (more_than 32 a c l h) (apart a b c 60 h k m) (apart a b c 62 h k p) (apart a b c 34 h k q) (apart a b c 123 h k r) (apart a b c 125 h k s) (apart a b c 124 h k t) (apart a b c 94 h k u) (apart a b c 96 h k v) (apart a b c 92 h k w))
    (scalar_low c (less_than c b 55296 k n))

high_chars : (c : ℕ) → 57344 ≤ c → c ≤ 1114111 → (is_iri_char c && scalar c) ≡ true
high_chars c h k = and_is (is_iri_char c) (scalar c)
    (iri_is c (more_than 32 57344 c (lit< tt) h) (apart 57344 1114111 c 60 h k (inr (lit< tt))) (apart 57344 1114111 c 62 h k (inr (lit< tt))) (apart 57344 1114111 c 34 h k (inr (lit< tt))) (apart 57344 1114111 c 123 h k (inr (lit< tt))) (apart 57344 1114111 c 125 h k (inr (lit< tt))) (apart 57344 1114111 c 124 h k (inr (lit< tt))) (apart 57344 1114111 c 94 h k (inr (lit< tt))) (apart 57344 1114111 c 96 h k (inr (lit< tt))) (apart 57344 1114111 c 92 h k (inr (lit< tt))))
    (scalar_high c h (less_than c 1114111 1114112 k (lit< tt)))

iri_forth : (c : ℕ) → in_ranges iri_list c ≡ true → (is_iri_char c && scalar c) ≡ true
iri_forth c h =
    elim (cases_in 33 33 c ((35, 59) ∷ (61, 61) ∷ (63, 91) ∷ (93, 93) ∷ (95, 95) ∷ (97, 122) ∷ (126, 55295) ∷ (57344, 1114111) ∷ []) h) [
      | inl k ↦ range_chars 33 33 c k.0 k.1 (lit< tt) (lit< tt) (inl (lit< tt)) (inl (lit< tt)) (inl (lit< tt)) (inl (lit< tt)) (inl (lit< tt)) (inl (lit< tt)) (inl (lit< tt)) (inl (lit< tt)) (inl (lit< tt))
      | inr n1 ↦
          elim (cases_in 35 59 c ((61, 61) ∷ (63, 91) ∷ (93, 93) ∷ (95, 95) ∷ (97, 122) ∷ (126, 55295) ∷ (57344, 1114111) ∷ []) n1) [
            | inl k ↦ range_chars 35 59 c k.0 k.1 (lit< tt) (lit< tt) (inl (lit< tt)) (inl (lit< tt)) (inr (lit< tt)) (inl (lit< tt)) (inl (lit< tt)) (inl (lit< tt)) (inl (lit< tt)) (inl (lit< tt)) (inl (lit< tt))
            | inr n2 ↦
                elim (cases_in 61 61 c ((63, 91) ∷ (93, 93) ∷ (95, 95) ∷ (97, 122) ∷ (126, 55295) ∷ (57344, 1114111) ∷ []) n2) [
                  | inl k ↦ range_chars 61 61 c k.0 k.1 (lit< tt) (lit< tt) (inr (lit< tt)) (inl (lit< tt)) (inr (lit< tt)) (inl (lit< tt)) (inl (lit< tt)) (inl (lit< tt)) (inl (lit< tt)) (inl (lit< tt)) (inl (lit< tt))
                  | inr n3 ↦
                      elim (cases_in 63 91 c ((93, 93) ∷ (95, 95) ∷ (97, 122) ∷ (126, 55295) ∷ (57344, 1114111) ∷ []) n3) [
                        | inl k ↦ range_chars 63 91 c k.0 k.1 (lit< tt) (lit< tt) (inr (lit< tt)) (inr (lit< tt)) (inr (lit< tt)) (inl (lit< tt)) (inl (lit< tt)) (inl (lit< tt)) (inl (lit< tt)) (inl (lit< tt)) (inl (lit< tt))
                        | inr n4 ↦
                            elim (cases_in 93 93 c ((95, 95) ∷ (97, 122) ∷ (126, 55295) ∷ (57344, 1114111) ∷ []) n4) [
                              | inl k ↦ range_chars 93 93 c k.0 k.1 (lit< tt) (lit< tt) (inr (lit< tt)) (inr (lit< tt)) (inr (lit< tt)) (inl (lit< tt)) (inl (lit< tt)) (inl (lit< tt)) (inl (lit< tt)) (inl (lit< tt)) (inr (lit< tt))
                              | inr n5 ↦
                                  elim (cases_in 95 95 c ((97, 122) ∷ (126, 55295) ∷ (57344, 1114111) ∷ []) n5) [
                                    | inl k ↦ range_chars 95 95 c k.0 k.1 (lit< tt) (lit< tt) (inr (lit< tt)) (inr (lit< tt)) (inr (lit< tt)) (inl (lit< tt)) (inl (lit< tt)) (inl (lit< tt)) (inr (lit< tt)) (inl (lit< tt)) (inr (lit< tt))
                                    | inr n6 ↦
                                        elim (cases_in 97 122 c ((126, 55295) ∷ (57344, 1114111) ∷ []) n6) [
                                          | inl k ↦ range_chars 97 122 c k.0 k.1 (lit< tt) (lit< tt) (inr (lit< tt)) (inr (lit< tt)) (inr (lit< tt)) (inl (lit< tt)) (inl (lit< tt)) (inl (lit< tt)) (inr (lit< tt)) (inr (lit< tt)) (inr (lit< tt))
                                          | inr n7 ↦
                                              elim (cases_in 126 55295 c ((57344, 1114111) ∷ []) n7) [
                                                | inl k ↦ range_chars 126 55295 c k.0 k.1 (lit< tt) (lit< tt) (inr (lit< tt)) (inr (lit< tt)) (inr (lit< tt)) (inr (lit< tt)) (inr (lit< tt)) (inr (lit< tt)) (inr (lit< tt)) (inr (lit< tt)) (inr (lit< tt))
                                                | inr n8 ↦
                                                    elim (cases_in 57344 1114111 c [] n8) [
                                                      | inl k ↦ high_chars c k.0 k.1
                                                      | inr n9 ↦ absurd cc
                                                    ]
                                              ]
                                        ]
                                  ]
                            ]
                      ]
                ]
          ]
    ]

iri_back : (c : ℕ) → 32 < c → (c < 55296) ⊎ ((57344 ≤ c) × (c < 1114112)) → ((x : ℕ) → is_iri_char x ≡ false → c ≢ x) → in_ranges iri_list c ≡ true
iri_back c l (inr h) n = in_others 33 33 c ((35, 59) ∷ (61, 61) ∷ (63, 91) ∷ (93, 93) ∷ (95, 95) ∷ (97, 122) ∷ (126, 55295) ∷ (57344, 1114111) ∷ []) (in_others 35 59 c ((61, 61) ∷ (63, 91) ∷ (93, 93) ∷ (95, 95) ∷ (97, 122) ∷ (126, 55295) ∷ (57344, 1114111) ∷ []) (in_others 61 61 c ((63, 91) ∷ (93, 93) ∷ (95, 95) ∷ (97, 122) ∷ (126, 55295) ∷ (57344, 1114111) ∷ []) (in_others 63 91 c ((93, 93) ∷ (95, 95) ∷ (97, 122) ∷ (126, 55295) ∷ (57344, 1114111) ∷ []) (in_others 93 93 c ((95, 95) ∷ (97, 122) ∷ (126, 55295) ∷ (57344, 1114111) ∷ []) (in_others 95 95 c ((97, 122) ∷ (126, 55295) ∷ (57344, 1114111) ∷ []) (in_others 97 122 c ((126, 55295) ∷ (57344, 1114111) ∷ []) (in_others 126 55295 c ((57344, 1114111) ∷ []) (in_first 57344 1114111 c [] (omega arith) (omega arith)))))))))
iri_back c l (inl h) n =
    elim (cases_lt 33 c) [
      | inr s0 ↦ in_first 33 33 c ((35, 59) ∷ (61, 61) ∷ (63, 91) ∷ (93, 93) ∷ (95, 95) ∷ (97, 122) ∷ (126, 55295) ∷ (57344, 1114111) ∷ []) (omega arith) (omega arith)
      | inl l0 ↦
          elim (cases_lt 59 c) [
            | inr s1 ↦ in_others 33 33 c ((35, 59) ∷ (61, 61) ∷ (63, 91) ∷ (93, 93) ∷ (95, 95) ∷ (97, 122) ∷ (126, 55295) ∷ (57344, 1114111) ∷ []) (in_first 35 59 c ((61, 61) ∷ (63, 91) ∷ (93, 93) ∷ (95, 95) ∷ (97, 122) ∷ (126, 55295) ∷ (57344, 1114111) ∷ []) (omega (arith, n 34 refl)) (omega arith))
            | inl l1 ↦
                elim (cases_lt 61 c) [
                  | inr s2 ↦ in_others 33 33 c ((35, 59) ∷ (61, 61) ∷ (63, 91) ∷ (93, 93) ∷ (95, 95) ∷ (97, 122) ∷ (126, 55295) ∷ (57344, 1114111) ∷ []) (in_others 35 59 c ((61, 61) ∷ (63, 91) ∷ (93, 93) ∷ (95, 95) ∷ (97, 122) ∷ (126, 55295) ∷ (57344, 1114111) ∷ []) (in_first 61 61 c ((63, 91) ∷ (93, 93) ∷ (95, 95) ∷ (97, 122) ∷ (126, 55295) ∷ (57344, 1114111) ∷ []) (omega (arith, n 60 refl)) (omega arith)))
                  | inl l2 ↦
                      elim (cases_lt 91 c) [
                        | inr s3 ↦ in_others 33 33 c ((35, 59) ∷ (61, 61) ∷ (63, 91) ∷ (93, 93) ∷ (95, 95) ∷ (97, 122) ∷ (126, 55295) ∷ (57344, 1114111) ∷ []) (in_others 35 59 c ((61, 61) ∷ (63, 91) ∷ (93, 93) ∷ (95, 95) ∷ (97, 122) ∷ (126, 55295) ∷ (57344, 1114111) ∷ []) (in_others 61 61 c ((63, 91) ∷ (93, 93) ∷ (95, 95) ∷ (97, 122) ∷ (126, 55295) ∷ (57344, 1114111) ∷ []) (in_first 63 91 c ((93, 93) ∷ (95, 95) ∷ (97, 122) ∷ (126, 55295) ∷ (57344, 1114111) ∷ []) (omega (arith, n 62 refl)) (omega arith))))
                        | inl l3 ↦
                            elim (cases_lt 93 c) [
                              | inr s4 ↦ in_others 33 33 c ((35, 59) ∷ (61, 61) ∷ (63, 91) ∷ (93, 93) ∷ (95, 95) ∷ (97, 122) ∷ (126, 55295) ∷ (57344, 1114111) ∷ []) (in_others 35 59 c ((61, 61) ∷ (63, 91) ∷ (93, 93) ∷ (95, 95) ∷ (97, 122) ∷ (126, 55295) ∷ (57344, 1114111) ∷ []) (in_others 61 61 c ((63, 91) ∷ (93, 93) ∷ (95, 95) ∷ (97, 122) ∷ (126, 55295) ∷ (57344, 1114111) ∷ []) (in_others 63 91 c ((93, 93) ∷ (95, 95) ∷ (97, 122) ∷ (126, 55295) ∷ (57344, 1114111) ∷ []) (in_first 93 93 c ((95, 95) ∷ (97, 122) ∷ (126, 55295) ∷ (57344, 1114111) ∷ []) (omega (arith, n 92 refl)) (omega arith)))))
                              | inl l4 ↦
                                  elim (cases_lt 95 c) [
                                    | inr s5 ↦ in_others 33 33 c ((35, 59) ∷ (61, 61) ∷ (63, 91) ∷ (93, 93) ∷ (95, 95) ∷ (97, 122) ∷ (126, 55295) ∷ (57344, 1114111) ∷ []) (in_others 35 59 c ((61, 61) ∷ (63, 91) ∷ (93, 93) ∷ (95, 95) ∷ (97, 122) ∷ (126, 55295) ∷ (57344, 1114111) ∷ []) (in_others 61 61 c ((63, 91) ∷ (93, 93) ∷ (95, 95) ∷ (97, 122) ∷ (126, 55295) ∷ (57344, 1114111) ∷ []) (in_others 63 91 c ((93, 93) ∷ (95, 95) ∷ (97, 122) ∷ (126, 55295) ∷ (57344, 1114111) ∷ []) (in_others 93 93 c ((95, 95) ∷ (97, 122) ∷ (126, 55295) ∷ (57344, 1114111) ∷ []) (in_first 95 95 c ((97, 122) ∷ (126, 55295) ∷ (57344, 1114111) ∷ []) (omega (arith, n 94 refl)) (omega arith))))))
                                    | inl l5 ↦
                                        elim (cases_lt 122 c) [
                                          | inr s6 ↦ in_others 33 33 c ((35, 59) ∷ (61, 61) ∷ (63, 91) ∷ (93, 93) ∷ (95, 95) ∷ (97, 122) ∷ (126, 55295) ∷ (57344, 1114111) ∷ []) (in_others 35 59 c ((61, 61) ∷ (63, 91) ∷ (93, 93) ∷ (95, 95) ∷ (97, 122) ∷ (126, 55295) ∷ (57344, 1114111) ∷ []) (in_others 61 61 c ((63, 91) ∷ (93, 93) ∷ (95, 95) ∷ (97, 122) ∷ (126, 55295) ∷ (57344, 1114111) ∷ []) (in_others 63 91 c ((93, 93) ∷ (95, 95) ∷ (97, 122) ∷ (126, 55295) ∷ (57344, 1114111) ∷ []) (in_others 93 93 c ((95, 95) ∷ (97, 122) ∷ (126, 55295) ∷ (57344, 1114111) ∷ []) (in_others 95 95 c ((97, 122) ∷ (126, 55295) ∷ (57344, 1114111) ∷ []) (in_first 97 122 c ((126, 55295) ∷ (57344, 1114111) ∷ []) (omega (arith, n 96 refl)) (omega arith)))))))
                                          | inl l6 ↦
                                              in_others 33 33 c ((35, 59) ∷ (61, 61) ∷ (63, 91) ∷ (93, 93) ∷ (95, 95) ∷ (97, 122) ∷ (126, 55295) ∷ (57344, 1114111) ∷ []) (in_others 35 59 c ((61, 61) ∷ (63, 91) ∷ (93, 93) ∷ (95, 95) ∷ (97, 122) ∷ (126, 55295) ∷ (57344, 1114111) ∷ []) (in_others 61 61 c ((63, 91) ∷ (93, 93) ∷ (95, 95) ∷ (97, 122) ∷ (126, 55295) ∷ (57344, 1114111) ∷ []) (in_others 63 91 c ((93, 93) ∷ (95, 95) ∷ (97, 122) ∷ (126, 55295) ∷ (57344, 1114111) ∷ []) (in_others 93 93 c ((95, 95) ∷ (97, 122) ∷ (126, 55295) ∷ (57344, 1114111) ∷ []) (in_others 95 95 c ((97, 122) ∷ (126, 55295) ∷ (57344, 1114111) ∷ []) (in_others 97 122 c ((126, 55295) ∷ (57344, 1114111) ∷ []) (in_first 126 55295 c ((57344, 1114111) ∷ []) (omega (arith, n 123 refl, n 124 refl, n 125 refl)) (omega arith))))))))
                                        ]
                                  ]
                            ]
                      ]
                ]
          ]
    ]

pub bool_same : (a b : Bool) → (a ≡ true → b ≡ true) → (b ≡ true → a ≡ true) → a ≡ b
bool_same true b f g = sym (f refl)
bool_same false true f g = g refl
bool_same false false f g = refl

pub iri_same : (c : ℕ) → in_ranges iri_list c ≡ (is_iri_char c && scalar c)
iri_same c = bool_same (in_ranges iri_list c) (is_iri_char c && scalar c) (λ h. iri_forth c h) (λ h.
    let p = and_parts (is_iri_char c) (scalar c) h in
    iri_back c (above_space c p.0) (scalar_cases c p.1) (λ x e. not_this c x e p.0))

pub read_ranges : (s : Scheme) → s ≡ scheme.Read → AreRanges iri_list (may_come s)
read_ranges s e = subst (λ (x : Scheme). AreRanges iri_list (may_come x)) (sym e) (record { ordered = refl; same = iri_same })

abbrev pub scalar_list : List (ℕ × ℕ)
scalar_list = (0, 55295) ∷ (57344, 1114111) ∷ []

scalar_forth : (c : ℕ) → in_ranges scalar_list c ≡ true → scalar c ≡ true
scalar_forth c h = elim (cases_in 0 55295 c ((57344, 1114111) ∷ []) h) [
  | inl k ↦ scalar_low c (less_than c 55295 55296 k.1 (lit< tt))
  | inr n ↦ elim (cases_in 57344 1114111 c [] n) [
    | inl k ↦ scalar_high c k.0 (less_than c 1114111 1114112 k.1 (lit< tt))
    | inr m ↦ absurd cc
  ]
]

scalar_back : (c : ℕ) → (c < 55296) ⊎ ((57344 ≤ c) × (c < 1114112)) → in_ranges scalar_list c ≡ true
scalar_back c (inl h) = in_first 0 55295 c ((57344, 1114111) ∷ []) (omega arith) (omega arith)
scalar_back c (inr h) = in_others 0 55295 c ((57344, 1114111) ∷ []) (in_first 57344 1114111 c [] h.0 (omega (arith, h.1)))

pub scalar_ranges : AreRanges scalar_list scalar
scalar_ranges = record { ordered = refl; same = λ c. bool_same (in_ranges scalar_list c) (scalar c) (λ h. scalar_forth c h) (λ h. scalar_back c (scalar_cases c h)) }
