-- Names of the C library (clause 7 of ISO/IEC 9899:1999 and of ISO/IEC 9899:2011; numbers of clauses are those of the second), and of
-- functions that gcc has built in. A text here is a list of words, with white space between them.
use Rattle.std.specs.Prelude.{ℕ, Bool, ◌&&◌, ◌||◌, List, ◌++◌, codes}
use Rattle.cs_base.specs.Reserved.{is_built_in, is_reserved_in}
use Rattle.gnu_lists.specs.WholeWords.{holds_word}

-- complex numbers, the floating-point environment and mathematics, with what clause 7 keeps for complex numbers (7.3, 7.6, 7.12, 7.31.1)
unfoldable pub number_names : List ℕ
number_names =
    codes "cabs cabsf cabsl cacos cacosf cacosh cacoshf cacoshl cacosl carg cargf cargl casin casinf casinh\n"
    ++ codes "casinhf casinhl casinl catan catanf catanh catanhf catanhl catanl ccos ccosf ccosh ccoshf ccoshl\n"
    ++ codes "ccosl cexp cexpf cexpl cimag cimagf cimagl clog clogf clogl conj conjf conjl cpow cpowf cpowl cproj\n"
    ++ codes "cprojf cprojl creal crealf creall csin csinf csinh csinhf csinhl csinl csqrt csqrtf csqrtl ctan\n"
    ++ codes "ctanf ctanh ctanhf ctanhl ctanl cerf cerfc cerfcf cerfcl cerff cerfl cexp2 cexp2f cexp2l cexpm1\n"
    ++ codes "cexpm1f cexpm1l clgamma clgammaf clgammal clog10 clog10f clog10l clog1p clog1pf clog1pl clog2 clog2f\n"
    ++ codes "clog2l ctgamma ctgammaf ctgammal feclearexcept fegetexceptflag feraiseexcept fesetexceptflag\n"
    ++ codes "fetestexcept fegetround fesetround fegetenv feholdexcept fesetenv feupdateenv acos acosf acosh\n"
    ++ codes "acoshf acoshl acosl asin asinf asinh asinhf asinhl asinl atan atan2 atan2f atan2l atanf atanh atanhf\n"
    ++ codes "atanhl atanl cbrt cbrtf cbrtl ceil ceilf ceill copysign copysignf copysignl cos cosf cosh coshf\n"
    ++ codes "coshl cosl erf erfc erfcf erfcl erff erfl exp exp2 exp2f exp2l expf expl expm1 expm1f expm1l fabs\n"
    ++ codes "fabsf fabsl fdim fdimf fdiml floor floorf floorl fma fmaf fmal fmax fmaxf fmaxl fmin fminf fminl\n"
    ++ codes "fmod fmodf fmodl frexp frexpf frexpl hypot hypotf hypotl ilogb ilogbf ilogbl ldexp ldexpf ldexpl\n"
    ++ codes "lgamma lgammaf lgammal llrint llrintf llrintl llround llroundf llroundl log log10 log10f log10l\n"
    ++ codes "log1p log1pf log1pl log2 log2f log2l logb logbf logbl logf logl lrint lrintf lrintl lround lroundf\n"
    ++ codes "lroundl modf modff modfl nan nanf nanl nearbyint nearbyintf nearbyintl nextafter nextafterf\n"
    ++ codes "nextafterl nexttoward nexttowardf nexttowardl pow powf powl remainder remainderf remainderl remquo\n"
    ++ codes "remquof remquol rint rintf rintl round roundf roundl scalbln scalblnf scalblnl scalbn scalbnf\n"
    ++ codes "scalbnl sin sinf sinh sinhf sinhl sinl sqrt sqrtf sqrtl tan tanf tanh tanhf tanhl tanl tgamma\n"
    ++ codes "tgammaf tgammal trunc truncf truncl\n"

-- characters, strings and wide characters (7.4, 7.24, 7.28 to 7.30)
unfoldable pub text_names : List ℕ
text_names =
    codes "isalnum isalpha isblank iscntrl isdigit isgraph islower isprint ispunct isspace isupper isxdigit\n"
    ++ codes "tolower toupper memchr memcmp memcpy memmove memset strcat strchr strcmp strcoll strcpy strcspn\n"
    ++ codes "strerror strlen strncat strncmp strncpy strpbrk strrchr strspn strstr strtok strxfrm mbrtoc16\n"
    ++ codes "c16rtomb mbrtoc32 c32rtomb btowc fgetwc fgetws fputwc fputws fwide fwprintf fwscanf getwc getwchar\n"
    ++ codes "mbrlen mbrtowc mbsinit mbsrtowcs putwc putwchar swprintf swscanf ungetwc vfwprintf vfwscanf\n"
    ++ codes "vswprintf vswscanf vwprintf vwscanf wcrtomb wcscat wcschr wcscmp wcscoll wcscpy wcscspn wcsftime\n"
    ++ codes "wcslen wcsncat wcsncmp wcsncpy wcspbrk wcsrchr wcsrtombs wcsspn wcsstr wcstod wcstof wcstok wcstol\n"
    ++ codes "wcstold wcstoll wcstoul wcstoull wcsxfrm wctob wmemchr wmemcmp wmemcpy wmemmove wmemset wprintf\n"
    ++ codes "wscanf iswalnum iswalpha iswblank iswcntrl iswctype iswdigit iswgraph iswlower iswprint iswpunct\n"
    ++ codes "iswspace iswupper iswxdigit towctrans towlower towupper wctrans wctype\n"

-- input and output, utilities, times and what else there is (7.5, 7.8, 7.11, 7.13, 7.14, 7.16, 7.21, 7.22, 7.27)
unfoldable pub utility_names : List ℕ
utility_names =
    codes "clearerr fclose feof ferror fflush fgetc fgetpos fgets fopen fprintf fputc fputs fread freopen\n"
    ++ codes "fscanf fseek fsetpos ftell fwrite getc getchar gets perror printf putc putchar puts remove rename\n"
    ++ codes "rewind scanf setbuf setvbuf snprintf sprintf sscanf tmpfile tmpnam ungetc vfprintf vfscanf vprintf\n"
    ++ codes "vscanf vsnprintf vsprintf vsscanf abort abs aligned_alloc atexit atof atoi atol atoll at_quick_exit\n"
    ++ codes "bsearch calloc div exit _Exit free getenv labs ldiv llabs lldiv malloc mblen mbstowcs mbtowc qsort\n"
    ++ codes "quick_exit rand realloc srand strtod strtof strtol strtold strtoll strtoul strtoull system wcstombs\n"
    ++ codes "wctomb imaxabs imaxdiv strtoimax strtoumax wcstoimax wcstoumax errno localeconv setlocale longjmp\n"
    ++ codes "setjmp raise signal va_copy va_end asctime clock ctime difftime gmtime localtime mktime strftime\n"
    ++ codes "time timespec_get\n"

-- atomic operations and threads (7.17, 7.26)
unfoldable pub thread_names : List ℕ
thread_names =
    codes "atomic_init atomic_is_lock_free atomic_thread_fence atomic_signal_fence atomic_store\n"
    ++ codes "atomic_store_explicit atomic_load atomic_load_explicit atomic_exchange atomic_exchange_explicit\n"
    ++ codes "atomic_compare_exchange_strong atomic_compare_exchange_strong_explicit atomic_compare_exchange_weak\n"
    ++ codes "atomic_compare_exchange_weak_explicit atomic_fetch_add atomic_fetch_add_explicit atomic_fetch_sub\n"
    ++ codes "atomic_fetch_sub_explicit atomic_fetch_or atomic_fetch_or_explicit atomic_fetch_xor\n"
    ++ codes "atomic_fetch_xor_explicit atomic_fetch_and atomic_fetch_and_explicit atomic_flag_test_and_set\n"
    ++ codes "atomic_flag_test_and_set_explicit atomic_flag_clear atomic_flag_clear_explicit call_once\n"
    ++ codes "cnd_broadcast cnd_destroy cnd_init cnd_signal cnd_timedwait cnd_wait mtx_destroy mtx_init mtx_lock\n"
    ++ codes "mtx_timedlock mtx_trylock mtx_unlock thrd_create thrd_current thrd_detach thrd_equal thrd_exit\n"
    ++ codes "thrd_join thrd_sleep thrd_yield tss_create tss_delete tss_get tss_set\n"

-- functions that gcc has built in and the standard has not, and objects that libraries and linkers of today have, as the three of 7.21.1
unfoldable pub own_names : List ℕ
own_names =
    codes "__clear_cache __cyg_profile_func_enter __cyg_profile_func_exit __fprintf_chk __memcpy_chk\n"
    ++ codes "__memmove_chk __mempcpy_chk __memset_chk __printf_chk __snprintf_chk __sprintf_chk __stpcpy_chk\n"
    ++ codes "__stpncpy_chk __strcat_chk __strcpy_chk __strncat_chk __strncpy_chk __vfprintf_chk __vprintf_chk\n"
    ++ codes "__vsnprintf_chk __vsprintf_chk _exit acc_on_device alloca bcmp bcopy bzero ceilf128 ceilf16 ceilf32\n"
    ++ codes "ceilf32x ceilf64 ceilf64x copysignf128 copysignf16 copysignf32 copysignf32x copysignf64 copysignf64x\n"
    ++ codes "dcgettext dgettext drem dremf dreml execl execle execlp execv execve execvp exp10 exp10f exp10l\n"
    ++ codes "fabsd128 fabsd32 fabsd64 fabsf128 fabsf16 fabsf32 fabsf32x fabsf64 fabsf64x ffs ffsimax ffsl ffsll\n"
    ++ codes "finite finited128 finited32 finited64 finitef finitel floorf128 floorf16 floorf32 floorf32x floorf64\n"
    ++ codes "floorf64x fmaf128 fmaf16 fmaf32 fmaf32x fmaf64 fmaf64x fmaxf128 fmaxf16 fmaxf32 fmaxf32x fmaxf64\n"
    ++ codes "fmaxf64x fminf128 fminf16 fminf32 fminf32x fminf64 fminf64x fork fprintf_unlocked fputc_unlocked\n"
    ++ codes "fputs_unlocked fwrite_unlocked gamma gamma_r gammaf gammaf_r gammal gammal_r gettext index isascii\n"
    ++ codes "isinf isinfd128 isinfd32 isinfd64 isinff isinfl isnan isnand128 isnand32 isnand64 isnanf isnanl j0\n"
    ++ codes "j0f j0l j1 j1f j1l jn jnf jnl lgamma_r lgammaf_r lgammal_r mempcpy nand128 nand32 nand64 nanf128\n"
    ++ codes "nanf16 nanf32 nanf32x nanf64 nanf64x nearbyintf128 nearbyintf16 nearbyintf32 nearbyintf32x\n"
    ++ codes "nearbyintf64 nearbyintf64x posix_memalign pow10 pow10f pow10l printf_unlocked putc_unlocked\n"
    ++ codes "putchar_unlocked puts_unlocked rindex rintf128 rintf16 rintf32 rintf32x rintf64 rintf64x roundeven\n"
    ++ codes "roundevenf roundevenf128 roundevenf16 roundevenf32 roundevenf32x roundevenf64 roundevenf64x\n"
    ++ codes "roundevenl roundf128 roundf16 roundf32 roundf32x roundf64 roundf64x scalb scalbf scalbl signbit\n"
    ++ codes "signbitd128 signbitd32 signbitd64 signbitf signbitl significand significandf significandl sincos\n"
    ++ codes "sincosf sincosl sqrtf128 sqrtf16 sqrtf32 sqrtf32x sqrtf64 sqrtf64x stpcpy stpncpy strcasecmp strdup\n"
    ++ codes "strfmon strncasecmp strndup strnlen toascii truncf128 truncf16 truncf32 truncf32x truncf64 truncf64x\n"
    ++ codes "y0 y0f y0l y1 y1f y1l yn ynf ynl stdin stdout stderr environ optarg opterr optind optopt daylight\n"
    ++ codes "getdate_err h_errno signgam sys_errlist sys_nerr timezone tzname program_invocation_name\n"
    ++ codes "program_invocation_short_name __bss_start __curbrk __environ __libc_start_main __progname\n"
    ++ codes "__progname_full _IO_2_1_stderr_ _IO_2_1_stdin_ _IO_2_1_stdout_ _edata _end _etext\n"

-- words more of gcc, which a program in GNU C cannot declare
unfoldable pub further_words : List ℕ
further_words =
    codes "__null __seg_fs __seg_gs __transaction_atomic __transaction_cancel __transaction_relaxed __GIMPLE\n"
    ++ codes "__PHI __RTL _Sat _Fract _Accum _Float128x __BASE_FILE__ __FILE_NAME__ __INCLUDE_LEVEL__\n"
    ++ codes "__TIMESTAMP__ __has_attribute __has_builtin __has_c_attribute __has_cpp_attribute\n"

-- An identifier that clause 7 has with external linkage, or may have (7.1.3: these and `errno` are reserved as such, whatever is included),
-- or that gcc has. `unfoldable`, since the tables would stand in every goal above.
unfoldable pub is_library_name : List ℕ → Bool
is_library_name text =
    holds_word text number_names
    || holds_word text text_names
    || holds_word text utility_names
    || holds_word text thread_names
    || holds_word text own_names
    || is_built_in text

unfoldable pub is_further_word : List ℕ → Bool
is_further_word text = holds_word text further_words

-- a spelling that no name may take in a workspace
abbrev pub is_closed_in : Bool → List ℕ → Bool
is_closed_in gnu text = is_reserved_in gnu text || gnu && is_further_word text
