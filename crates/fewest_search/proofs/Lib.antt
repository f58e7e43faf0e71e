mod SearchLaws
mod ApartLaws
