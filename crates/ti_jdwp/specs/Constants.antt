-- The bodies of replies that are always the same.
use Rattle.std.specs.Prelude.{ℕ, List, [], ◌∷◌, ◌++◌, replicate}
use Rattle.ti_jdwp.specs.declared.plan.Constant.{Constant}
use Rattle.ti_jdwp.specs.declared.plan.Constant.TheVariants as constant
use Rattle.ti_jdwp.specs.Fields.{int, long, text}
use Rattle.ti_jdwp.specs.Ids.{thread_group, thread_class, group_class}

-- "main"
abbrev pub group_name : List ℕ
group_name = 109 ∷ 97 ∷ 105 ∷ 110 ∷ []

-- "Ljava/lang/Thread;"
abbrev pub thread_signature : List ℕ
thread_signature = 76 ∷ 106 ∷ 97 ∷ 118 ∷ 97 ∷ 47 ∷ 108 ∷ 97 ∷ 110 ∷ 103 ∷ 47 ∷ 84 ∷ 104 ∷ 114 ∷ 101 ∷ 97 ∷ 100 ∷ 59 ∷ []

-- "Ljava/lang/ThreadGroup;"
abbrev pub group_signature : List ℕ
group_signature = 76 ∷ 106 ∷ 97 ∷ 118 ∷ 97 ∷ 47 ∷ 108 ∷ 97 ∷ 110 ∷ 103 ∷ 47 ∷ 84 ∷ 104 ∷ 114 ∷ 101 ∷ 97 ∷ 100 ∷ 71 ∷ 114 ∷ 111 ∷ 117 ∷ 112 ∷ 59 ∷ []

-- "Ljava/lang/String;"
abbrev pub text_signature : List ℕ
text_signature = 76 ∷ 106 ∷ 97 ∷ 118 ∷ 97 ∷ 47 ∷ 108 ∷ 97 ∷ 110 ∷ 103 ∷ 47 ∷ 83 ∷ 116 ∷ 114 ∷ 105 ∷ 110 ∷ 103 ∷ 59 ∷ []

-- an array of these
abbrev pub table_signature : List ℕ
table_signature = 91 ∷ text_signature

abbrev pub constant_bytes : Constant → List ℕ
constant_bytes constant.Empty = []
constant_bytes constant.IdSizes = int 8 ++ int 8 ++ int 8 ++ int 8 ++ int 8
constant_bytes constant.Capabilities = replicate 7 0
constant_bytes constant.Groups = int 1 ++ long thread_group
constant_bytes constant.GroupName = text group_name
constant_bytes constant.GroupId = long thread_group
constant_bytes constant.NoId = long 0
constant_bytes constant.NoItems = int 0
constant_bytes constant.False = 0 ∷ []
constant_bytes constant.Public = int 1
constant_bytes constant.Initialized = int 7
constant_bytes constant.ThreadClass = 1 ∷ long thread_class
constant_bytes constant.GroupClass = 1 ∷ long group_class
constant_bytes constant.ThreadSignature = text thread_signature
constant_bytes constant.ThreadGenericSignature = text thread_signature ++ text []
constant_bytes constant.GroupSignature = text group_signature
constant_bytes constant.GroupGenericSignature = text group_signature ++ text []
constant_bytes constant.TextSignature = text text_signature
constant_bytes constant.TextGenericSignature = text text_signature ++ text []
constant_bytes constant.TableSignature = text table_signature
constant_bytes constant.TableGenericSignature = text table_signature ++ text []
constant_bytes constant.NoObject = 76 ∷ long 0
