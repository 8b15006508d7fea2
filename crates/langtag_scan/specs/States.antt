-- The number of the state for each position of the recogniser. Written by data/scan/generate.py. Do not edit.
-- Only contracts of private functions cite this page.
use Rattle.std.specs.Prelude.{ℕ, List, [], ◌∷◌, slice_index_or}
use Rattle.langtag_scan.specs.Stage.{Stage, Start, Language, Extended, AfterScript, AfterRegion, AfterVariant, AfterSingleton, InExtension, AfterMark, InPrivate, AfterFirstMark, InPrivateTag}
use Rattle.langtag_scan.specs.Kind.{Kind, Empty, Mark, Letters, Digits, LetterFirst, DigitFirst}

-- the states while a subtag of this kind is read after this stage, one state for each number of bytes, if no irregular tag is possible
unfoldable pub states_of : Stage → Kind → List ℕ
states_of Start Empty = []
states_of Start Mark = 164 ∷ 5 ∷ []
states_of Start Letters = 164 ∷ 1 ∷ 6 ∷ 11 ∷ 27 ∷ 46 ∷ 71 ∷ 90 ∷ 110 ∷ []
states_of Start Digits = []
states_of Start LetterFirst = []
states_of Start DigitFirst = []
states_of (Language taken) Empty = slice_index_or ((12 ∷ []) ∷ [] ∷ [] ∷ (47 ∷ []) ∷ []) taken []
states_of (Language taken) Mark = slice_index_or ((164 ∷ 29 ∷ []) ∷ [] ∷ [] ∷ (164 ∷ 73 ∷ []) ∷ []) taken []
states_of (Language taken) Letters = slice_index_or ((164 ∷ 28 ∷ 48 ∷ 74 ∷ 92 ∷ 112 ∷ 129 ∷ 145 ∷ 152 ∷ []) ∷ [] ∷ [] ∷ (164 ∷ 72 ∷ 91 ∷ 111 ∷ 92 ∷ 112 ∷ 129 ∷ 145 ∷ 152 ∷ []) ∷ []) taken []
states_of (Language taken) Digits = slice_index_or ((164 ∷ 30 ∷ 53 ∷ 80 ∷ 100 ∷ 112 ∷ 129 ∷ 145 ∷ 152 ∷ []) ∷ [] ∷ [] ∷ (164 ∷ 30 ∷ 53 ∷ 80 ∷ 100 ∷ 112 ∷ 129 ∷ 145 ∷ 152 ∷ []) ∷ []) taken []
states_of (Language taken) LetterFirst = slice_index_or ((164 ∷ 164 ∷ 49 ∷ 75 ∷ 93 ∷ 112 ∷ 129 ∷ 145 ∷ 152 ∷ []) ∷ [] ∷ [] ∷ (164 ∷ 164 ∷ 49 ∷ 75 ∷ 93 ∷ 112 ∷ 129 ∷ 145 ∷ 152 ∷ []) ∷ []) taken []
states_of (Language taken) DigitFirst = slice_index_or ((164 ∷ 164 ∷ 52 ∷ 79 ∷ 100 ∷ 112 ∷ 129 ∷ 145 ∷ 152 ∷ []) ∷ [] ∷ [] ∷ (164 ∷ 164 ∷ 52 ∷ 79 ∷ 100 ∷ 112 ∷ 129 ∷ 145 ∷ 152 ∷ []) ∷ []) taken []
states_of (Extended taken) Empty = slice_index_or ([] ∷ (94 ∷ []) ∷ (153 ∷ []) ∷ (47 ∷ []) ∷ []) taken []
states_of (Extended taken) Mark = slice_index_or ([] ∷ (164 ∷ 115 ∷ []) ∷ (164 ∷ 157 ∷ []) ∷ (164 ∷ 73 ∷ []) ∷ []) taken []
states_of (Extended taken) Letters = slice_index_or ([] ∷ (164 ∷ 114 ∷ 132 ∷ 147 ∷ 92 ∷ 112 ∷ 129 ∷ 145 ∷ 152 ∷ []) ∷ (164 ∷ 156 ∷ 160 ∷ 163 ∷ 92 ∷ 112 ∷ 129 ∷ 145 ∷ 152 ∷ []) ∷ (164 ∷ 72 ∷ 91 ∷ 111 ∷ 92 ∷ 112 ∷ 129 ∷ 145 ∷ 152 ∷ []) ∷ []) taken []
states_of (Extended taken) Digits = slice_index_or ([] ∷ (164 ∷ 30 ∷ 53 ∷ 80 ∷ 100 ∷ 112 ∷ 129 ∷ 145 ∷ 152 ∷ []) ∷ (164 ∷ 30 ∷ 53 ∷ 80 ∷ 100 ∷ 112 ∷ 129 ∷ 145 ∷ 152 ∷ []) ∷ (164 ∷ 30 ∷ 53 ∷ 80 ∷ 100 ∷ 112 ∷ 129 ∷ 145 ∷ 152 ∷ []) ∷ []) taken []
states_of (Extended taken) LetterFirst = slice_index_or ([] ∷ (164 ∷ 164 ∷ 49 ∷ 75 ∷ 93 ∷ 112 ∷ 129 ∷ 145 ∷ 152 ∷ []) ∷ (164 ∷ 164 ∷ 49 ∷ 75 ∷ 93 ∷ 112 ∷ 129 ∷ 145 ∷ 152 ∷ []) ∷ (164 ∷ 164 ∷ 49 ∷ 75 ∷ 93 ∷ 112 ∷ 129 ∷ 145 ∷ 152 ∷ []) ∷ []) taken []
states_of (Extended taken) DigitFirst = slice_index_or ([] ∷ (164 ∷ 164 ∷ 52 ∷ 79 ∷ 100 ∷ 112 ∷ 129 ∷ 145 ∷ 152 ∷ []) ∷ (164 ∷ 164 ∷ 52 ∷ 79 ∷ 100 ∷ 112 ∷ 129 ∷ 145 ∷ 152 ∷ []) ∷ (164 ∷ 164 ∷ 52 ∷ 79 ∷ 100 ∷ 112 ∷ 129 ∷ 145 ∷ 152 ∷ []) ∷ []) taken []
states_of AfterScript Empty = 113 ∷ []
states_of AfterScript Mark = 164 ∷ 131 ∷ []
states_of AfterScript Letters = 164 ∷ 130 ∷ 146 ∷ 75 ∷ 93 ∷ 112 ∷ 129 ∷ 145 ∷ 152 ∷ []
states_of AfterScript Digits = 164 ∷ 30 ∷ 53 ∷ 80 ∷ 100 ∷ 112 ∷ 129 ∷ 145 ∷ 152 ∷ []
states_of AfterScript LetterFirst = 164 ∷ 164 ∷ 49 ∷ 75 ∷ 93 ∷ 112 ∷ 129 ∷ 145 ∷ 152 ∷ []
states_of AfterScript DigitFirst = 164 ∷ 164 ∷ 52 ∷ 79 ∷ 100 ∷ 112 ∷ 129 ∷ 145 ∷ 152 ∷ []
states_of AfterRegion Empty = 76 ∷ []
states_of AfterRegion Mark = 164 ∷ 96 ∷ []
states_of AfterRegion Letters = 164 ∷ 95 ∷ 49 ∷ 75 ∷ 93 ∷ 112 ∷ 129 ∷ 145 ∷ 152 ∷ []
states_of AfterRegion Digits = 164 ∷ 97 ∷ 52 ∷ 79 ∷ 100 ∷ 112 ∷ 129 ∷ 145 ∷ 152 ∷ []
states_of AfterRegion LetterFirst = 164 ∷ 164 ∷ 49 ∷ 75 ∷ 93 ∷ 112 ∷ 129 ∷ 145 ∷ 152 ∷ []
states_of AfterRegion DigitFirst = 164 ∷ 164 ∷ 52 ∷ 79 ∷ 100 ∷ 112 ∷ 129 ∷ 145 ∷ 152 ∷ []
states_of AfterVariant Empty = 119 ∷ []
states_of AfterVariant Mark = 164 ∷ 96 ∷ []
states_of AfterVariant Letters = 164 ∷ 95 ∷ 49 ∷ 75 ∷ 93 ∷ 112 ∷ 129 ∷ 145 ∷ 152 ∷ []
states_of AfterVariant Digits = 164 ∷ 97 ∷ 52 ∷ 79 ∷ 100 ∷ 112 ∷ 129 ∷ 145 ∷ 152 ∷ []
states_of AfterVariant LetterFirst = 164 ∷ 164 ∷ 49 ∷ 75 ∷ 93 ∷ 112 ∷ 129 ∷ 145 ∷ 152 ∷ []
states_of AfterVariant DigitFirst = 164 ∷ 164 ∷ 52 ∷ 79 ∷ 100 ∷ 112 ∷ 129 ∷ 145 ∷ 152 ∷ []
states_of AfterSingleton Empty = 50 ∷ []
states_of AfterSingleton Mark = 164 ∷ 77 ∷ []
states_of AfterSingleton Letters = 164 ∷ 77 ∷ 98 ∷ 116 ∷ 133 ∷ 148 ∷ 154 ∷ 158 ∷ 161 ∷ []
states_of AfterSingleton Digits = 164 ∷ 77 ∷ 98 ∷ 116 ∷ 133 ∷ 148 ∷ 154 ∷ 158 ∷ 161 ∷ []
states_of AfterSingleton LetterFirst = 164 ∷ 164 ∷ 98 ∷ 116 ∷ 133 ∷ 148 ∷ 154 ∷ 158 ∷ 161 ∷ []
states_of AfterSingleton DigitFirst = 164 ∷ 164 ∷ 98 ∷ 116 ∷ 133 ∷ 148 ∷ 154 ∷ 158 ∷ 161 ∷ []
states_of InExtension Empty = 117 ∷ []
states_of InExtension Mark = 164 ∷ 135 ∷ []
states_of InExtension Letters = 164 ∷ 134 ∷ 98 ∷ 116 ∷ 133 ∷ 148 ∷ 154 ∷ 158 ∷ 161 ∷ []
states_of InExtension Digits = 164 ∷ 134 ∷ 98 ∷ 116 ∷ 133 ∷ 148 ∷ 154 ∷ 158 ∷ 161 ∷ []
states_of InExtension LetterFirst = 164 ∷ 164 ∷ 98 ∷ 116 ∷ 133 ∷ 148 ∷ 154 ∷ 158 ∷ 161 ∷ []
states_of InExtension DigitFirst = 164 ∷ 164 ∷ 98 ∷ 116 ∷ 133 ∷ 148 ∷ 154 ∷ 158 ∷ 161 ∷ []
states_of AfterMark Empty = 51 ∷ []
states_of AfterMark Mark = 164 ∷ 78 ∷ []
states_of AfterMark Letters = 164 ∷ 78 ∷ 99 ∷ 118 ∷ 136 ∷ 149 ∷ 155 ∷ 159 ∷ 162 ∷ []
states_of AfterMark Digits = 164 ∷ 78 ∷ 99 ∷ 118 ∷ 136 ∷ 149 ∷ 155 ∷ 159 ∷ 162 ∷ []
states_of AfterMark LetterFirst = 164 ∷ 164 ∷ 99 ∷ 118 ∷ 136 ∷ 149 ∷ 155 ∷ 159 ∷ 162 ∷ []
states_of AfterMark DigitFirst = 164 ∷ 164 ∷ 99 ∷ 118 ∷ 136 ∷ 149 ∷ 155 ∷ 159 ∷ 162 ∷ []
states_of InPrivate Empty = 51 ∷ []
states_of InPrivate Mark = 164 ∷ 78 ∷ []
states_of InPrivate Letters = 164 ∷ 78 ∷ 99 ∷ 118 ∷ 136 ∷ 149 ∷ 155 ∷ 159 ∷ 162 ∷ []
states_of InPrivate Digits = 164 ∷ 78 ∷ 99 ∷ 118 ∷ 136 ∷ 149 ∷ 155 ∷ 159 ∷ 162 ∷ []
states_of InPrivate LetterFirst = 164 ∷ 164 ∷ 99 ∷ 118 ∷ 136 ∷ 149 ∷ 155 ∷ 159 ∷ 162 ∷ []
states_of InPrivate DigitFirst = 164 ∷ 164 ∷ 99 ∷ 118 ∷ 136 ∷ 149 ∷ 155 ∷ 159 ∷ 162 ∷ []
states_of AfterFirstMark Empty = 10 ∷ []
states_of AfterFirstMark Mark = 164 ∷ 26 ∷ []
states_of AfterFirstMark Letters = 164 ∷ 26 ∷ 45 ∷ 70 ∷ 89 ∷ 109 ∷ 128 ∷ 144 ∷ 151 ∷ []
states_of AfterFirstMark Digits = 164 ∷ 26 ∷ 45 ∷ 70 ∷ 89 ∷ 109 ∷ 128 ∷ 144 ∷ 151 ∷ []
states_of AfterFirstMark LetterFirst = 164 ∷ 164 ∷ 45 ∷ 70 ∷ 89 ∷ 109 ∷ 128 ∷ 144 ∷ 151 ∷ []
states_of AfterFirstMark DigitFirst = 164 ∷ 164 ∷ 45 ∷ 70 ∷ 89 ∷ 109 ∷ 128 ∷ 144 ∷ 151 ∷ []
states_of InPrivateTag Empty = 10 ∷ []
states_of InPrivateTag Mark = 164 ∷ 26 ∷ []
states_of InPrivateTag Letters = 164 ∷ 26 ∷ 45 ∷ 70 ∷ 89 ∷ 109 ∷ 128 ∷ 144 ∷ 151 ∷ []
states_of InPrivateTag Digits = 164 ∷ 26 ∷ 45 ∷ 70 ∷ 89 ∷ 109 ∷ 128 ∷ 144 ∷ 151 ∷ []
states_of InPrivateTag LetterFirst = 164 ∷ 164 ∷ 45 ∷ 70 ∷ 89 ∷ 109 ∷ 128 ∷ 144 ∷ 151 ∷ []
states_of InPrivateTag DigitFirst = 164 ∷ 164 ∷ 45 ∷ 70 ∷ 89 ∷ 109 ∷ 128 ∷ 144 ∷ 151 ∷ []

-- the states along each irregular tag, in the order of the table: one before its first byte, and one after each byte
unfoldable pub states_along : List (List ℕ)
states_along =
    (0 ∷ 2 ∷ 7 ∷ 13 ∷ 31 ∷ 54 ∷ 81 ∷ 101 ∷ 120 ∷ 137 ∷ [])
    ∷ (0 ∷ 3 ∷ 8 ∷ 14 ∷ 32 ∷ 55 ∷ [])
    ∷ (0 ∷ 3 ∷ 8 ∷ 15 ∷ 33 ∷ 56 ∷ [])
    ∷ (0 ∷ 3 ∷ 8 ∷ 16 ∷ 34 ∷ 57 ∷ 82 ∷ 102 ∷ 121 ∷ 138 ∷ [])
    ∷ (0 ∷ 3 ∷ 8 ∷ 17 ∷ 35 ∷ 58 ∷ 83 ∷ 103 ∷ 122 ∷ 139 ∷ 150 ∷ [])
    ∷ (0 ∷ 3 ∷ 8 ∷ 18 ∷ 36 ∷ 59 ∷ [])
    ∷ (0 ∷ 3 ∷ 8 ∷ 19 ∷ 37 ∷ 60 ∷ 84 ∷ 104 ∷ 123 ∷ 140 ∷ [])
    ∷ (0 ∷ 3 ∷ 8 ∷ 20 ∷ 38 ∷ 61 ∷ [])
    ∷ (0 ∷ 3 ∷ 8 ∷ 21 ∷ 39 ∷ 62 ∷ 85 ∷ 105 ∷ [])
    ∷ (0 ∷ 3 ∷ 8 ∷ 22 ∷ 40 ∷ 63 ∷ 86 ∷ 106 ∷ 124 ∷ [])
    ∷ (0 ∷ 3 ∷ 8 ∷ 23 ∷ 41 ∷ 64 ∷ [])
    ∷ (0 ∷ 3 ∷ 8 ∷ 24 ∷ 42 ∷ 65 ∷ [])
    ∷ (0 ∷ 3 ∷ 8 ∷ 24 ∷ 42 ∷ 66 ∷ [])
    ∷ (0 ∷ 3 ∷ 8 ∷ 24 ∷ 43 ∷ 67 ∷ [])
    ∷ (0 ∷ 4 ∷ 9 ∷ 25 ∷ 44 ∷ 68 ∷ 87 ∷ 107 ∷ 125 ∷ 141 ∷ [])
    ∷ (0 ∷ 4 ∷ 9 ∷ 25 ∷ 44 ∷ 68 ∷ 87 ∷ 107 ∷ 126 ∷ 142 ∷ [])
    ∷ (0 ∷ 4 ∷ 9 ∷ 25 ∷ 44 ∷ 69 ∷ 88 ∷ 108 ∷ 127 ∷ 143 ∷ [])
    ∷ []
