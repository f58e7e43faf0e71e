pub mod ListArea
